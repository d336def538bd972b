-- A walk that stores what each sight's star came to.
use Rattle.std.specs.Prelude.{ℕ, ◌+◌, ◌≤◌, ◌<◌, ◌≡◌, List, map, length, take, get_or, set}
use Rattle.std.proofs.Common.{sym, ap, ◌∙◌, arith}
use Rattle.std.proofs.lemmas.List.{length-map}
use Rattle.std.proofs.Math.ListN.{get_or-map}
use Rattle.text_fields.specs.rules.Stored.{over}
use Rattle.text_fields.specs.laws.Stored.{front}
use Rattle.report_residuals.specs.declared.Style.{Style}
use Rattle.report_residuals.specs.rules.Text.{sheets_report}
use Rattle.lent.specs.notions.Rows.{Row}
use Rattle.lent.specs.laws.Rows.{start, store, finish}
use Rattle.report_residuals.specs.declared.Came.{Came}
use Rattle.report_residuals.specs.notions.Matched.{Matched, Upto}

-- ---- values over a slice's front

front_long : {A : Type 0} (f : A → ℕ) (l : List A) (old cur : List ℕ) → cur ≡ over (map f l) old → length l ≡ length (take (length l) cur)
front_long f l old cur e = sym (ap length (front f l old cur e) ∙ length-map l f)

module _ (came : ℕ → Came) (star status₀ asc₀ dec₀ : List ℕ) where
  values_in_all : (f : ℕ → ℕ) → length (map f star) ≡ length star
  values_in_all f = length-map star f

  pub none_matched : length star ≤ length status₀ → length star ≤ length asc₀ → length star ≤ length dec₀ → Upto came star status₀ asc₀ dec₀ 0 status₀ asc₀ dec₀
  none_matched p q r =
      record {
        passes = omega arith;
        statuses = start _ _ _ (values_in_all _) p;
        ascs = start _ _ _ (values_in_all _) q;
        decs = start _ _ _ (values_in_all _) r;
      }

  module _ {i : ℕ} {status asc dec : List ℕ} (u : Upto came star status₀ asc₀ dec₀ i status asc dec) where
    module _ (h : i < length star) (c : Came) (e : c ≡ came (get_or star i 0)) where
      next_row : (f : Came → ℕ) (old cur : List ℕ) → Row (map (λ (n : ℕ). f (came n)) star) old cur (length star) i
          → Row (map (λ (n : ℕ). f (came n)) star) old (set cur i (f c)) (length star) (i + 1)
      next_row f old cur r =
          store _ _ _ (values_in_all _) cur i (f c) (f (came 0)) h r (ap f e ∙ sym (get_or-map (λ (n : ℕ). f (came n)) star i 0))

      pub one_matched : Upto came star status₀ asc₀ dec₀ (i + 1) (set status i c.status) (set asc i c.asc) (set dec i c.dec)
      one_matched =
          record {
            passes = omega (arith, h);
            statuses = next_row (λ (x : Came). x.status) status₀ status u.statuses;
            ascs = next_row (λ (x : Came). x.asc) asc₀ asc u.ascs;
            decs = next_row (λ (x : Came). x.dec) dec₀ dec u.decs;
          }

    pub all_matched : length star ≤ i → Matched came star status₀ asc₀ dec₀ status asc dec
    all_matched h =
        let e : i ≡ length star = omega (arith, u.passes) in
        record {
          statuses = finish _ _ _ (values_in_all _) _ _ e u.statuses;
          ascs = finish _ _ _ (values_in_all _) _ _ e u.ascs;
          decs = finish _ _ _ (values_in_all _) _ _ e u.decs;
        }

-- what was stored, by its slices' fronts
module _ {came : ℕ → Came} {star status asc dec status' asc' dec' : List ℕ} (m : Matched came star status asc dec status' asc' dec') where
  pub status_long : length star ≡ length (take (length star) status')
  status_long = front_long (λ (n : ℕ). (came n).status) star status status' m.statuses

  pub asc_long : length star ≡ length (take (length star) asc')
  asc_long = front_long (λ (n : ℕ). (came n).asc) star asc asc' m.ascs

  pub dec_long : length star ≡ length (take (length star) dec')
  dec_long = front_long (λ (n : ℕ). (came n).dec) star dec dec' m.decs

  pub matched_sheets : (style : Style) (line measuredAsc measuredDec : List ℕ)
      → sheets_report style line star (map (λ (n : ℕ). (came n).status) star) (map (λ (n : ℕ). (came n).asc) star) (map (λ (n : ℕ). (came n).dec) star) measuredAsc measuredDec
      ≡ sheets_report style line star (take (length star) status') (take (length star) asc') (take (length star) dec') measuredAsc measuredDec
  matched_sheets style line measuredAsc measuredDec =
      let p = front (λ (n : ℕ). (came n).status) star status status' m.statuses in
      let q = front (λ (n : ℕ). (came n).asc) star asc asc' m.ascs in
      let t = front (λ (n : ℕ). (came n).dec) star dec dec' m.decs in
      sym (λ j. sheets_report style line star (p j) (q j) (t j) measuredAsc measuredDec)
