-- What a row of the table stands for, written as the crate writes its rows: a factor 1 is left out, and so is what is not there; what
-- bears a minus sign is taken away.
use Rattle.std.specs.Prelude.{ℕ, ◌/◌, ◌%◌, Bool, true, false, cond, not, ◌&&◌, List, eqb, ℤ, pos, negsuc, get_or, Float}
use Rattle.std.specs.Float.{nan, inf, fin, binary64}
use Rattle.std.specs.Float.Ieee.{of_int, eq, lt}
use Rattle.double.specs.rules.Operations.{zero, ◌⊕◌, ◌⊖◌, ◌⊗◌}
use Rattle.double.specs.rules.Sign.{bears_minus, size}
use Rattle.quantity.specs.declared.Rad.{Rad}
use Rattle.quantity.specs.rules.Angle.{rad}
use Rattle.elementary.specs.rules.Sine.{sin_cos_of}
use Rattle.aberr_args.specs.declared.Arguments.{Arguments}
use Rattle.aberr_args.specs.declared.Row.{Row}
use Rattle.aberr_args.specs.declared.Multipliers.{Multipliers}
use Rattle.aberr_args.specs.declared.Terms.{Terms}
use Rattle.aberr_args.specs.declared.Velocity.{Velocity}

-- the angle of a number: 1 is L', 2 to 8 are L2 to L8, 9 is D, 10 M' and 11 F
unfoldable pub angle_of : Arguments → ℕ → Rad
angle_of g n =
    cond (eqb n 1) g.l1
    (cond (eqb n 2) g.l2
    (cond (eqb n 3) g.l3
    (cond (eqb n 4) g.l4
    (cond (eqb n 5) g.l5
    (cond (eqb n 6) g.l6
    (cond (eqb n 7) g.l7
    (cond (eqb n 8) g.l8
    (cond (eqb n 9) g.d
    (cond (eqb n 10) g.m1 g.f)))))))))

-- a whole number of the table
abbrev whole : ℤ → Float
whole z = of_int binary64 z

abbrev pub multipliers_of : Row → Multipliers
multipliers_of x = record { bracketed = eqb (x.6 % 2) 1; first = whole x.0; second = whole x.2; third = whole x.4 }

-- a row's terms; q is the row that holds their parts in T, and x.7 is 0 where they have none
abbrev pub x_terms : Row → Row → Terms
x_terms x q =
    record {
      bracketed = eqb (x.6 / 2 % 2) 1;
      moving = not (eqb x.7 0);
      sine = whole x.8;
      sine_t = whole q.8;
      cosine = whole x.9;
      cosine_t = whole q.9;
    }

abbrev pub y_terms : Row → Row → Terms
y_terms x q =
    record {
      bracketed = false;
      moving = not (eqb x.7 0);
      sine = whole x.10;
      sine_t = whole q.10;
      cosine = whole x.11;
      cosine_t = whole q.11;
    }

abbrev pub z_terms : Row → Row → Terms
z_terms x q =
    record {
      bracketed = eqb (x.6 / 4 % 2) 1;
      moving = not (eqb x.7 0);
      sine = whole x.12;
      sine_t = whole q.12;
      cosine = whole x.13;
      cosine_t = whole q.13;
    }

-- k is 1.0
abbrev pub is_one : Float → Bool
is_one nan = false
is_one (inf s) = false
is_one (fin true m e) = false
is_one (fin false m (pos n)) = eqb m 1 && eqb n 0
is_one (fin false m (negsuc n)) = false

-- k·w
unfoldable pub times : Float → Float → Float
times k w = cond (is_one k) w (k ⊗ w)

-- p + k·w
unfoldable pub plus : Float → Float → Float → Float
plus p k w = cond (eq k zero) p (cond (bears_minus k) (p ⊖ times (size k) w) (p ⊕ times k w))

unfoldable pub argument_of : Row → Arguments → Rad
argument_of x g =
    let m = multipliers_of x in
    let a = (angle_of g x.1).0 in
    let b = (angle_of g x.3).0 in
    let c = (angle_of g x.5).0 in
    rad (cond m.bracketed (m.first ⊗ (a ⊖ b)) (plus (plus (times m.first a) m.second b) m.third c))

-- one coefficient times a sum or a difference: the greater, where they differ
unfoldable pub grouped : Terms → Float → Float → Float
grouped e sine cosine =
    let s = e.sine in
    let c = e.cosine in
    cond (eq s c) (s ⊗ (sine ⊕ cosine)) (cond (lt s c) (c ⊗ (cosine ⊖ sine)) (s ⊗ (sine ⊖ cosine)))

-- (k + d·t)·w
unfoldable pub term : Float → Float → Float → Float → Float
term k d t w = cond (eq d zero) (times k w) (plus k d t ⊗ w)

-- p + (k + d·t)·w
unfoldable pub with_term : Float → Float → Float → Float → Float → Float
with_term p k d t w = cond (eq k zero) p (cond (eq d zero) (plus p k w) (p ⊕ plus k d t ⊗ w))

-- both terms, and their parts in T
unfoldable pub moved : Terms → Float → Float → Float → Float → Float
moved e t sine cosine v = v ⊕ with_term (term e.sine e.sine_t t sine) e.cosine e.cosine_t t cosine

-- both where they move, else each where it is there
unfoldable pub spread : Terms → Float → Float → Float → Float → Float
spread e t sine cosine v =
    cond e.moving (moved e t sine cosine v)
    (cond (eq e.sine zero) (cond (eq e.cosine zero) v (v ⊕ times e.cosine cosine))
    (v ⊕ plus (times e.sine sine) e.cosine cosine))

-- the sum v with a row's terms
unfoldable pub share_of : Terms → Float → Float → Float → Float → Float
share_of e t sine cosine v = cond e.bracketed (v ⊕ grouped e sine cosine) (spread e t sine cosine v)

-- the sums v with a row's terms
unfoldable pub added : Row → Row → Float → Float → Float → Velocity → Velocity
added x q t sine cosine v =
    record {
      x = share_of (x_terms x q) t sine cosine v.x;
      y = share_of (y_terms x q) t sine cosine v.y;
      z = share_of (z_terms x q) t sine cosine v.z;
    }

-- for a row that is not there
abbrev nothing : Row
nothing =
    record {
      0 = pos 0;
      1 = 0;
      2 = pos 0;
      3 = 0;
      4 = pos 0;
      5 = 0;
      6 = 0;
      7 = 0;
      8 = pos 0;
      9 = pos 0;
      10 = pos 0;
      11 = pos 0;
      12 = pos 0;
      13 = pos 0;
    }

-- the sums v with a row x of a table
unfoldable pub with_row : Row → List Row → Arguments → Velocity → Velocity
with_row x table g v =
    let a = sin_cos_of (argument_of x g) in
    added x (get_or table x.7 nothing) g.t a.sine a.cosine v
