-- The 36 rows in source order: each adds its terms to the sums v so far, from the sine and cosine of its argument A, here a.
-- Rows 19, 21 and 31 to 35 keep the crate's grouping.
use Rattle.std.specs.Float.Ieee.{neg}
use Rattle.double.specs.rules.Operations.{◌⊕◌, ◌⊖◌, ◌⊗◌}
use Rattle.quantity.specs.rules.Angle.{rad}
use Rattle.elementary.specs.rules.Sine.{sin_cos_of}
use Rattle.aberr_args.specs.declared.Arguments.{Arguments}
use Rattle.aberr_args.specs.declared.Velocity.{Velocity}
use Rattle.aberr_table.specs.rules.Numbers.{n1719914, n2, n25, n13, n1578089, n156, n10, n32, n684185, n358, n6434, n141, n28007, n107, n25697}
use Rattle.aberr_table.specs.rules.Numbers.{n95, n5904, n130, n11141, n48, n2559, n55, n715, n6, n657, n15, n282, n656, n285, n486, n5, n236}
use Rattle.aberr_table.specs.rules.Numbers.{n4, n216, n446, n94, n193, n3, n159, n147, n61, n26, n59, n39, n36, n16, n33, n9, n30, n31, n28}
use Rattle.aberr_table.specs.rules.Numbers.{n12, n8, n11, n21, n19, n17, n7, n1, n14}

unfoldable pub row1 : Arguments → Velocity → Velocity
row1 g v =
    let a = sin_cos_of (rad g.l3.0) in
    record {
      x = v.x ⊕ ((neg n1719914 ⊖ n2 ⊗ g.t) ⊗ a.sine ⊖ n25 ⊗ a.cosine);
      y = v.y ⊕ ((n25 ⊖ n13 ⊗ g.t) ⊗ a.sine ⊕ (n1578089 ⊕ n156 ⊗ g.t) ⊗ a.cosine);
      z = v.z ⊕ ((n10 ⊕ n32 ⊗ g.t) ⊗ a.sine ⊕ (n684185 ⊖ n358 ⊗ g.t) ⊗ a.cosine);
    }

unfoldable pub row2 : Arguments → Velocity → Velocity
row2 g v =
    let a = sin_cos_of (rad (n2 ⊗ g.l3.0)) in
    record {
      x = v.x ⊕ ((n6434 ⊕ n141 ⊗ g.t) ⊗ a.sine ⊕ (n28007 ⊖ n107 ⊗ g.t) ⊗ a.cosine);
      y = v.y ⊕ ((n25697 ⊖ n95 ⊗ g.t) ⊗ a.sine ⊕ (neg n5904 ⊖ n130 ⊗ g.t) ⊗ a.cosine);
      z = v.z ⊕ ((n11141 ⊖ n48 ⊗ g.t) ⊗ a.sine ⊕ (neg n2559 ⊖ n55 ⊗ g.t) ⊗ a.cosine);
    }

unfoldable pub row3 : Arguments → Velocity → Velocity
row3 g v =
    let a = sin_cos_of (rad g.l5.0) in
    record {
      x = v.x ⊕ n715 ⊗ a.sine;
      y = v.y ⊕ (n6 ⊗ a.sine ⊖ n657 ⊗ a.cosine);
      z = v.z ⊕ (neg n15 ⊗ a.sine ⊖ n282 ⊗ a.cosine);
    }

unfoldable pub row4 : Arguments → Velocity → Velocity
row4 g v =
    let a = sin_cos_of (rad g.l1.0) in
    record {
      x = v.x ⊕ n715 ⊗ a.sine;
      y = v.y ⊕ neg n656 ⊗ a.cosine;
      z = v.z ⊕ neg n285 ⊗ a.cosine;
    }

unfoldable pub row5 : Arguments → Velocity → Velocity
row5 g v =
    let a = sin_cos_of (rad (n3 ⊗ g.l3.0)) in
    record {
      x = v.x ⊕ ((n486 ⊖ n5 ⊗ g.t) ⊗ a.sine ⊕ (neg n236 ⊖ n4 ⊗ g.t) ⊗ a.cosine);
      y = v.y ⊕ ((neg n216 ⊖ n4 ⊗ g.t) ⊗ a.sine ⊕ (neg n446 ⊕ n5 ⊗ g.t) ⊗ a.cosine);
      z = v.z ⊕ (neg n94 ⊗ a.sine ⊖ n193 ⊗ a.cosine);
    }

unfoldable pub row6 : Arguments → Velocity → Velocity
row6 g v =
    let a = sin_cos_of (rad g.l6.0) in
    record {
      x = v.x ⊕ n159 ⊗ a.sine;
      y = v.y ⊕ (n2 ⊗ a.sine ⊖ n147 ⊗ a.cosine);
      z = v.z ⊕ (neg n6 ⊗ a.sine ⊖ n61 ⊗ a.cosine);
    }

unfoldable pub row7 : Arguments → Velocity → Velocity
row7 g v =
    let a = sin_cos_of (rad g.f.0) in
    record {
      x = v.x;
      y = v.y ⊕ n26 ⊗ a.cosine;
      z = v.z ⊕ neg n59 ⊗ a.cosine;
    }

unfoldable pub row8 : Arguments → Velocity → Velocity
row8 g v =
    let a = sin_cos_of (rad (g.l1.0 ⊕ g.m1.0)) in
    record {
      x = v.x ⊕ n39 ⊗ a.sine;
      y = v.y ⊕ neg n36 ⊗ a.cosine;
      z = v.z ⊕ neg n16 ⊗ a.cosine;
    }

unfoldable pub row9 : Arguments → Velocity → Velocity
row9 g v =
    let a = sin_cos_of (rad (n2 ⊗ g.l5.0)) in
    record {
      x = v.x ⊕ (n33 ⊗ a.sine ⊖ n10 ⊗ a.cosine);
      y = v.y ⊕ (neg n9 ⊗ a.sine ⊖ n30 ⊗ a.cosine);
      z = v.z ⊕ (neg n5 ⊗ a.sine ⊖ n13 ⊗ a.cosine);
    }

unfoldable pub row10 : Arguments → Velocity → Velocity
row10 g v =
    let a = sin_cos_of (rad (n2 ⊗ g.l3.0 ⊖ g.l5.0)) in
    record {
      x = v.x ⊕ (n31 ⊗ a.sine ⊕ a.cosine);
      y = v.y ⊕ (a.sine ⊖ n28 ⊗ a.cosine);
      z = v.z ⊕ neg n12 ⊗ a.cosine;
    }

unfoldable pub row11 : Arguments → Velocity → Velocity
row11 g v =
    let a = sin_cos_of (rad (n3 ⊗ g.l3.0 ⊖ n8 ⊗ g.l4.0 ⊕ n3 ⊗ g.l5.0)) in
    record {
      x = v.x ⊕ (n8 ⊗ a.sine ⊖ n28 ⊗ a.cosine);
      y = v.y ⊕ (n25 ⊗ a.sine ⊕ n8 ⊗ a.cosine);
      z = v.z ⊕ (n11 ⊗ a.sine ⊕ n3 ⊗ a.cosine);
    }

unfoldable pub row12 : Arguments → Velocity → Velocity
row12 g v =
    let a = sin_cos_of (rad (n5 ⊗ g.l3.0 ⊖ n8 ⊗ g.l4.0 ⊕ n3 ⊗ g.l5.0)) in
    record {
      x = v.x ⊕ (n8 ⊗ a.sine ⊖ n28 ⊗ a.cosine);
      y = v.y ⊕ (neg n25 ⊗ a.sine ⊖ n8 ⊗ a.cosine);
      z = v.z ⊕ (neg n11 ⊗ a.sine ⊖ n3 ⊗ a.cosine);
    }

unfoldable pub row13 : Arguments → Velocity → Velocity
row13 g v =
    let a = sin_cos_of (rad (n2 ⊗ g.l2.0 ⊖ g.l3.0)) in
    record {
      x = v.x ⊕ n21 ⊗ a.sine;
      y = v.y ⊕ neg n19 ⊗ a.cosine;
      z = v.z ⊕ neg n8 ⊗ a.cosine;
    }

unfoldable pub row14 : Arguments → Velocity → Velocity
row14 g v =
    let a = sin_cos_of (rad g.l2.0) in
    record {
      x = v.x ⊕ neg n19 ⊗ a.sine;
      y = v.y ⊕ n17 ⊗ a.cosine;
      z = v.z ⊕ n8 ⊗ a.cosine;
    }

unfoldable pub row15 : Arguments → Velocity → Velocity
row15 g v =
    let a = sin_cos_of (rad g.l7.0) in
    record {
      x = v.x ⊕ n17 ⊗ a.sine;
      y = v.y ⊕ neg n16 ⊗ a.cosine;
      z = v.z ⊕ neg n7 ⊗ a.cosine;
    }

unfoldable pub row16 : Arguments → Velocity → Velocity
row16 g v =
    let a = sin_cos_of (rad (g.l3.0 ⊖ n2 ⊗ g.l5.0)) in
    record {
      x = v.x ⊕ n16 ⊗ a.sine;
      y = v.y ⊕ n15 ⊗ a.cosine;
      z = v.z ⊕ (a.sine ⊕ n7 ⊗ a.cosine);
    }

unfoldable pub row17 : Arguments → Velocity → Velocity
row17 g v =
    let a = sin_cos_of (rad g.l8.0) in
    record {
      x = v.x ⊕ n16 ⊗ a.sine;
      y = v.y ⊕ (a.sine ⊖ n15 ⊗ a.cosine);
      z = v.z ⊕ (neg n3 ⊗ a.sine ⊖ n6 ⊗ a.cosine);
    }

unfoldable pub row18 : Arguments → Velocity → Velocity
row18 g v =
    let a = sin_cos_of (rad (g.l3.0 ⊕ g.l5.0)) in
    record {
      x = v.x ⊕ (n11 ⊗ a.sine ⊖ a.cosine);
      y = v.y ⊕ (neg n1 ⊗ a.sine ⊖ n10 ⊗ a.cosine);
      z = v.z ⊕ (neg n1 ⊗ a.sine ⊖ n5 ⊗ a.cosine);
    }

unfoldable pub row19 : Arguments → Velocity → Velocity
row19 g v =
    let a = sin_cos_of (rad (n2 ⊗ (g.l2.0 ⊖ g.l3.0))) in
    record {
      x = v.x ⊕ neg n11 ⊗ a.cosine;
      y = v.y ⊕ neg n10 ⊗ a.sine;
      z = v.z ⊕ neg n4 ⊗ a.sine;
    }

unfoldable pub row20 : Arguments → Velocity → Velocity
row20 g v =
    let a = sin_cos_of (rad (g.l3.0 ⊖ g.l5.0)) in
    record {
      x = v.x ⊕ (neg n11 ⊗ a.sine ⊖ n2 ⊗ a.cosine);
      y = v.y ⊕ (neg n2 ⊗ a.sine ⊕ n9 ⊗ a.cosine);
      z = v.z ⊕ (neg n1 ⊗ a.sine ⊕ n4 ⊗ a.cosine);
    }

unfoldable pub row21 : Arguments → Velocity → Velocity
row21 g v =
    let a = sin_cos_of (rad (n4 ⊗ g.l3.0)) in
    record {
      x = v.x ⊕ (neg n7 ⊗ a.sine ⊖ n8 ⊗ a.cosine);
      y = v.y ⊕ (neg n8 ⊗ a.sine ⊕ n6 ⊗ a.cosine);
      z = v.z ⊕ n3 ⊗ (a.cosine ⊖ a.sine);
    }

unfoldable pub row22 : Arguments → Velocity → Velocity
row22 g v =
    let a = sin_cos_of (rad (n3 ⊗ g.l3.0 ⊖ n2 ⊗ g.l5.0)) in
    record {
      x = v.x ⊕ neg n10 ⊗ a.sine;
      y = v.y ⊕ n9 ⊗ a.cosine;
      z = v.z ⊕ n4 ⊗ a.cosine;
    }

unfoldable pub row23 : Arguments → Velocity → Velocity
row23 g v =
    let a = sin_cos_of (rad (g.l2.0 ⊖ n2 ⊗ g.l3.0)) in
    record {
      x = v.x ⊕ neg n9 ⊗ a.sine;
      y = v.y ⊕ neg n9 ⊗ a.cosine;
      z = v.z ⊕ neg n4 ⊗ a.cosine;
    }

unfoldable pub row24 : Arguments → Velocity → Velocity
row24 g v =
    let a = sin_cos_of (rad (n2 ⊗ g.l2.0 ⊖ n3 ⊗ g.l3.0)) in
    record {
      x = v.x ⊕ neg n9 ⊗ a.sine;
      y = v.y ⊕ neg n8 ⊗ a.cosine;
      z = v.z ⊕ neg n4 ⊗ a.cosine;
    }

unfoldable pub row25 : Arguments → Velocity → Velocity
row25 g v =
    let a = sin_cos_of (rad (n2 ⊗ g.l6.0)) in
    record {
      x = v.x ⊕ neg n9 ⊗ a.cosine;
      y = v.y ⊕ neg n8 ⊗ a.sine;
      z = v.z ⊕ neg n3 ⊗ a.sine;
    }

unfoldable pub row26 : Arguments → Velocity → Velocity
row26 g v =
    let a = sin_cos_of (rad (n2 ⊗ g.l2.0 ⊖ n4 ⊗ g.l3.0)) in
    record {
      x = v.x ⊕ neg n9 ⊗ a.cosine;
      y = v.y ⊕ n8 ⊗ a.sine;
      z = v.z ⊕ n3 ⊗ a.sine;
    }

unfoldable pub row27 : Arguments → Velocity → Velocity
row27 g v =
    let a = sin_cos_of (rad (n3 ⊗ g.l3.0 ⊖ n2 ⊗ g.l4.0)) in
    record {
      x = v.x ⊕ n8 ⊗ a.sine;
      y = v.y ⊕ neg n8 ⊗ a.cosine;
      z = v.z ⊕ neg n3 ⊗ a.cosine;
    }

unfoldable pub row28 : Arguments → Velocity → Velocity
row28 g v =
    let a = sin_cos_of (rad (g.l1.0 ⊕ n2 ⊗ g.d.0 ⊖ g.m1.0)) in
    record {
      x = v.x ⊕ n8 ⊗ a.sine;
      y = v.y ⊕ neg n7 ⊗ a.cosine;
      z = v.z ⊕ neg n3 ⊗ a.cosine;
    }

unfoldable pub row29 : Arguments → Velocity → Velocity
row29 g v =
    let a = sin_cos_of (rad (n8 ⊗ g.l2.0 ⊖ n12 ⊗ g.l3.0)) in
    record {
      x = v.x ⊕ (neg n4 ⊗ a.sine ⊖ n7 ⊗ a.cosine);
      y = v.y ⊕ (neg n6 ⊗ a.sine ⊕ n4 ⊗ a.cosine);
      z = v.z ⊕ (neg n3 ⊗ a.sine ⊕ n2 ⊗ a.cosine);
    }

unfoldable pub row30 : Arguments → Velocity → Velocity
row30 g v =
    let a = sin_cos_of (rad (n8 ⊗ g.l2.0 ⊖ n14 ⊗ g.l3.0)) in
    record {
      x = v.x ⊕ (neg n4 ⊗ a.sine ⊖ n7 ⊗ a.cosine);
      y = v.y ⊕ (n6 ⊗ a.sine ⊖ n4 ⊗ a.cosine);
      z = v.z ⊕ (n3 ⊗ a.sine ⊖ n2 ⊗ a.cosine);
    }

unfoldable pub row31 : Arguments → Velocity → Velocity
row31 g v =
    let a = sin_cos_of (rad (n2 ⊗ g.l4.0)) in
    record {
      x = v.x ⊕ (neg n6 ⊗ a.sine ⊖ n5 ⊗ a.cosine);
      y = v.y ⊕ (neg n4 ⊗ a.sine ⊕ n5 ⊗ a.cosine);
      z = v.z ⊕ n2 ⊗ (a.cosine ⊖ a.sine);
    }

unfoldable pub row32 : Arguments → Velocity → Velocity
row32 g v =
    let a = sin_cos_of (rad (n3 ⊗ g.l2.0 ⊖ n4 ⊗ g.l3.0)) in
    record {
      x = v.x ⊕ neg n1 ⊗ (a.sine ⊕ a.cosine);
      y = v.y ⊕ (neg n2 ⊗ a.sine ⊖ n7 ⊗ a.cosine);
      z = v.z ⊕ (a.sine ⊖ n4 ⊗ a.cosine);
    }

unfoldable pub row33 : Arguments → Velocity → Velocity
row33 g v =
    let a = sin_cos_of (rad (n2 ⊗ (g.l3.0 ⊖ g.l5.0))) in
    record {
      x = v.x ⊕ (n4 ⊗ a.sine ⊖ n6 ⊗ a.cosine);
      y = v.y ⊕ (neg n5 ⊗ a.sine ⊖ n4 ⊗ a.cosine);
      z = v.z ⊕ neg n2 ⊗ (a.sine ⊕ a.cosine);
    }

unfoldable pub row34 : Arguments → Velocity → Velocity
row34 g v =
    let a = sin_cos_of (rad (n3 ⊗ (g.l2.0 ⊖ g.l3.0))) in
    record {
      x = v.x ⊕ neg n7 ⊗ a.cosine;
      y = v.y ⊕ neg n6 ⊗ a.sine;
      z = v.z ⊕ neg n3 ⊗ a.sine;
    }

unfoldable pub row35 : Arguments → Velocity → Velocity
row35 g v =
    let a = sin_cos_of (rad (n2 ⊗ (g.l3.0 ⊖ g.l4.0))) in
    record {
      x = v.x ⊕ n5 ⊗ (a.sine ⊖ a.cosine);
      y = v.y ⊕ (neg n4 ⊗ a.sine ⊖ n5 ⊗ a.cosine);
      z = v.z ⊕ neg n2 ⊗ (a.sine ⊕ a.cosine);
    }

unfoldable pub row36 : Arguments → Velocity → Velocity
row36 g v =
    let a = sin_cos_of (rad (g.l1.0 ⊖ n2 ⊗ g.d.0)) in
    record {
      x = v.x ⊕ n5 ⊗ a.sine;
      y = v.y ⊕ neg n5 ⊗ a.cosine;
      z = v.z ⊕ neg n2 ⊗ a.cosine;
    }
