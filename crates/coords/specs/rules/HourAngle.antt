-- The hour angle.
use Rattle.std.specs.Prelude.{ℕ}
use Rattle.double.specs.rules.Operations.{◌⊖◌}
use Rattle.quantity.specs.declared.Rad.{Rad}
use Rattle.quantity.specs.rules.Angle.{rad}
use Rattle.quantity.specs.rules.Answer.{Answer, answered, unless}
use Rattle.quantity.specs.rules.Refusal.{lower, angle_refusal}

-- from the sidereal time at Greenwich g, the observer's longitude l and the right ascension a
abbrev pub hr_angl_frm_observer_long : Rad → Rad → Rad → Rad
hr_angl_frm_observer_long g l a = rad ((g.0 ⊖ l.0) ⊖ a.0)

abbrev pub observer_long_refusal : Rad → Rad → Rad → ℕ
observer_long_refusal g l a = lower (angle_refusal g) (lower (angle_refusal l) (angle_refusal a))

abbrev pub hr_angl_frm_observer_long_rule : Rad → Rad → Rad → Answer Rad
hr_angl_frm_observer_long_rule g l a = unless (observer_long_refusal g l a) (answered (hr_angl_frm_observer_long g l a))

-- from the local sidereal time s and the right ascension a
abbrev pub loc_sidr_refusal : Rad → Rad → ℕ
loc_sidr_refusal s a = lower (angle_refusal s) (angle_refusal a)

abbrev pub hr_angl_frm_loc_sidr_rule : Rad → Rad → Answer Rad
hr_angl_frm_loc_sidr_rule s a = unless (loc_sidr_refusal s a) (answered (rad (s.0 ⊖ a.0)))
