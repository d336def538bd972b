-- What is worked out of doubles lies in the range that is worked out of theirs.
use Rattle.std.specs.Prelude.{Bool, true, false, cond, T, Float}
use Rattle.std.specs.Float.{binary64}
use Rattle.double.specs.rules.Operations.{◌⊕◌, ◌⊖◌, ◌⊗◌}
use Rattle.double.specs.rules.Order.{Between}
use Rattle.double.specs.notions.Range.{Range, unknown, ◌to◌, In, add_range, sub_range, mul_range, inside, known, con, ◌⊞◌, ◌⊟◌, ◌⊠◌}
use Rattle.double.specs.laws.Interval.{sound, bounded}
use Rattle.quantity.specs.declared.Rad.{Rad}
use Rattle.domain.specs.notions.Ranges.{constant, Lies}

pub constant_lies : (c : Float) → Lies (constant c) c
constant_lies c = record { lies = sound binary64 (con c) }

pub sum_lies : {r s : Range} {x y : Float} → Lies r x → Lies s y → Lies (add_range binary64 r s) (x ⊕ y)
sum_lies {r = unknown} i j = record { lies = tt }
sum_lies {r = a to b} {s = unknown} i j = record { lies = tt }
sum_lies {r = a to b} {s = c to d} i j = record { lies = sound binary64 (known i.lies ⊞ known j.lies) }

pub difference_lies : {r s : Range} {x y : Float} → Lies r x → Lies s y → Lies (sub_range binary64 r s) (x ⊖ y)
difference_lies {r = unknown} i j = record { lies = tt }
difference_lies {r = a to b} {s = unknown} i j = record { lies = tt }
difference_lies {r = a to b} {s = c to d} i j = record { lies = sound binary64 (known i.lies ⊟ known j.lies) }

pub product_lies : {r s : Range} {x y : Float} → Lies r x → Lies s y → Lies (mul_range binary64 r s) (x ⊗ y)
product_lies {r = unknown} i j = record { lies = tt }
product_lies {r = a to b} {s = unknown} i j = record { lies = tt }
product_lies {r = a to b} {s = c to d} i j = record { lies = sound binary64 (known i.lies ⊠ known j.lies) }

-- one or the other, by whatever test
pub either_lies : (b : Bool) {r s : Range} {x y : Float} → Lies r x → Lies s y → Lies (cond b r s) (cond b x y)
either_lies true i j = i
either_lies false i j = j

pub either_angle_lies : (b : Bool) {r s : Range} {x y : Rad} → Lies r x.0 → Lies s y.0 → Lies (cond b r s) (cond b x y).0
either_angle_lies true i j = i
either_angle_lies false i j = j

pub in_inside : (a b : Float) (r : Range) (z : Float) → T (inside a b r) → In r z → Between a b z
in_inside a b unknown z t i = absurd t
in_inside a b (c to d) z t i = bounded binary64 a b (known i) t
