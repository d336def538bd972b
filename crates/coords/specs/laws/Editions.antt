-- In the crate's edition the rule is the one of before; in the published one it is Meeus's.
use Rattle.std.specs.Prelude.{◌≡◌, refl}
use Rattle.quantity.specs.declared.Rad.{Rad}
use Rattle.edition.specs.declared.Edition.TheVariants.{Crate, Published}
use Rattle.coords.specs.rules.Horizon.{dec_frm_hz_in, dec_frm_hz_rule}
use Rattle.coords.specs.notions.Editions.{dec_of_crate, dec_published}

pub dec_frm_hz_of_crate : (z a p : Rad) → dec_frm_hz_rule Crate z a p ≡ dec_of_crate z a p
unfolding dec_frm_hz_in
dec_frm_hz_of_crate z a p = refl

pub dec_frm_hz_published : (z a p : Rad) → dec_frm_hz_rule Published z a p ≡ dec_published z a p
unfolding dec_frm_hz_in
dec_frm_hz_published z a p = refl
