-- `rotation_list::two_turned` meets its contract.
use Prim.Native.Nat.{ℕ}
use mathlib.Core.Path.{◌∙◌}
use mathlib.Core.Bool.{cond}
use Rattle.quantity.specs.declared.Rad.{Rad}
use Rattle.quantity.specs.rules.Refusal.{latitude_refusal}
use Rattle.elementary.specs.rules.Sine.{two_sin_cos_of}
use Rattle.list.specs.declared.Star.{Star}
use Rattle.list.specs.rules.Record.{in_range}
use Rattle.list.specs.rules.Stars.{is_kept}
use Rattle.star_store.specs.rules.Star.{star_refusal}
use Rattle.rotation_list.specs.laws.Turned.{turned_in_steps}
use Rattle.rotation_list.proofs.two_turned.Goals as goal

-- before its place is taken, by its declination
abbrev refused_at : Star → Rad → ℕ
refused_at star dec = cond (is_kept star) (cond (in_range star) (latitude_refusal dec) 9) 10

pub returns : goal.returns
unfolding star_refusal
returns c =
    let begin = c.args in
    let decs = c.dec_of-first_dec.ensures in
    let decs2 = c.dec_of-second_dec.ensures in
    turned_in_steps _ begin.ascs begin.decs begin.years begin.first begin.second
    c.vector_under-v.ensures
    c.vector_under-w.ensures
    c.arcs_refusal-first_arcs.ensures
    c.arcs_refusal-second_arcs.ensures
    c.arcsine_root-root.ensures
    c.arcsine_root-root2.ensures
    c.arcs_two-arcs.ensures
    (c.two_sin_cos_of-next_ascs.ensures ∙ (λ j. two_sin_cos_of (c.asc_of-first_asc.ensures j) (c.asc_of-second_asc.ensures j)))
    (c.two_sin_cos_of-next_decs.ensures ∙ (λ j. two_sin_cos_of (decs j) (decs2 j)))
    (c.star_refusal-first_check.ensures ∙ (λ j. refused_at begin.first (decs j)))
    (c.star_refusal-second_check.ensures ∙ (λ j. refused_at begin.second (decs2 j)))
