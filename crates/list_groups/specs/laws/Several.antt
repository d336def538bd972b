-- Several things in turn: where reading and spelling one are each other's inverse, so are reading and spelling all.
use Rattle.std.specs.Prelude.{◌≡◌, length}
use Rattle.std.proofs.Math.Path.{refl, sym, ap, subst}
use Rattle.std.proofs.Common.{◌∙◌}
use mathlib.Core.List.{List, [], ◌∷◌, ◌++◌, append_assoc}
use Prim.Native.Nat.{ℕ, zero, suc, ◌-◌, ◌<◌}
use native.Mathlib.Omega.{arith}
use Rattle.quantity.specs.rules.Answer.{Answer, answered, refused, with}
use Rattle.list.specs.rules.Stars.{Bytes}
use Rattle.list_groups.specs.rules.Groups.{groups}
use Rattle.list_groups.specs.rules.Reading.{Got, read_number}
use Rattle.list_groups.specs.rules.Several.{spell_all, before, read_all}
use Rattle.list_groups.specs.notions.Tail.{Tail, LeavesTail}
use Rattle.list_groups.specs.notions.Spelt.{Small, AllGood, OneSpelt, AllSpelt}
use Rattle.quantity.specs.laws.Steps.{stepped, changed}
use Rattle.list_groups.specs.laws.Tails.{all, of_tail}
use Rattle.list_groups.specs.laws.Inverse.{spelt_is_read, read_was_spelt}

pub bytes_after_lem : (a b : List ℕ) → Bytes (a ++ b) → Bytes b
bytes_after_lem [] b y = y
bytes_after_lem (x ∷ a) b y = bytes_after_lem a b (λ (i : ℕ). y (suc i))

pub spell_append : {A : Type 0} (spell : A → List ℕ) (a b : List A) → spell_all spell (a ++ b) ≡ spell_all spell a ++ spell_all spell b
spell_append spell [] b = refl
spell_append spell (x ∷ a) b =
    ap (λ (l : List ℕ). spell x ++ l) (spell_append spell a b)
    ∙ sym (append_assoc (spell x) (spell_all spell a) (spell_all spell b))

-- ---- a turn: the first of m things, and the rest of them
module _ {A : Type 0} (read : List ℕ → Answer (Got A)) where
  pub none : (m : ℕ) (bs : List ℕ) → m ≡ 0 → read_all read m bs ≡ answered (record { value = []; rest = bs })
  unfolding read_all
  none zero bs h = refl
  none (suc m) bs h = absurd (omega arith)

  pub first : (m : ℕ) (bs : List ℕ) (g : Got A) → 0 < m → read bs ≡ answered g
      → read_all read m bs ≡ with (before g.value) (read_all read (m - 1) g.rest)
  unfolding read_all
  first zero bs g h e = absurd (omega arith)
  first (suc m) bs g h e =
      rw e
      (ap (λ (k : ℕ). with (before g.value) (read_all read k g.rest)) (let q : m ≡ suc m - 1 = omega arith in q))

  pub stops : (m : ℕ) (bs : List ℕ) (k : ℕ) → 0 < m → read bs ≡ refused k → read_all read m bs ≡ refused k
  unfolding read_all
  stops zero bs k h e = absurd (omega arith)
  stops (suc m) bs k h e = rw e

  -- the first refusal met is given: after m that are answered, of n
  pub first_met : (m n : ℕ) (bs : List ℕ) (h : Got (List A)) (k : ℕ) → m < n → read_all read m bs ≡ answered h
      → read h.rest ≡ refused k → read_all read n bs ≡ refused k
  unfolding read_all
  first_met zero n bs h k l e r =
      stops n bs k l
      (ap read (ap (λ (x : Got (List A)). x.rest) (let q : record { value = []; rest = bs } ≡ h = cc in q)) ∙ r)
  first_met (suc m) zero bs h k l e r = absurd (omega arith)
  first_met (suc m) (suc n) bs h k l e r =
      let s = stepped (read bs) (λ (f : Got A). with (before f.value) (read_all read m f.rest)) h e in
      let c = changed (read_all read m s.value.rest) (before s.value.value) h s.next in
      rw
      (s.first, first_met m n s.value.rest c.value k (omega arith) c.first (ap (λ (x : Got (List A)). read x.rest) (sym c.is) ∙ r))

  pub all_leave_tail : LeavesTail read → (n : ℕ) → LeavesTail (read_all read n)
  unfolding read_all
  all_leave_tail tails zero bs g h =
      subst (λ (x : Got (List A)). Tail x.rest bs) (let q : record { value = []; rest = bs } ≡ g = cc in q) (all bs)
  all_leave_tail tails (suc n) bs g h =
      let s = stepped (read bs) (λ (f : Got A). with (before f.value) (read_all read n f.rest)) g h in
      let c = changed (read_all read n s.value.rest) (before s.value.value) g s.next in
      let t = of_tail (all_leave_tail tails n s.value.rest c.value c.first) (tails bs s.value s.first) in
      record { front = t.front; is = t.is ∙ ap (λ (x : Got (List A)). t.front ++ x.rest) (sym c.is) }

-- ---- all of them
module _ {A : Type 0} (spell : A → List ℕ) (read : List ℕ → Answer (Got A)) (Good : A → Type 0) where
  module _ (there : (x : A) (rest : List ℕ) → Good x → read (spell x ++ rest) ≡ answered (record { value = x; rest = rest })) where
    pub all_spelt_are_read : (xs : List A) (rest : List ℕ) → AllGood Good xs
        → read_all read (length xs) (spell_all spell xs ++ rest) ≡ answered (record { value = xs; rest = rest })
    unfolding read_all
    all_spelt_are_read [] rest g = refl
    all_spelt_are_read (x ∷ xs) rest g =
        rw (append_assoc (spell x) (spell_all spell xs) rest, there x (spell_all spell xs ++ rest) g.0, all_spelt_are_read xs rest g.1)

  module _ (back : (bs : List ℕ) (g : Got A) → Bytes bs → read bs ≡ answered g → OneSpelt spell Good bs g) where
    pub all_read_were_spelt : (n : ℕ) (bs : List ℕ) (g : Got (List A)) → Bytes bs → read_all read n bs ≡ answered g
        → AllSpelt spell Good n bs g
    unfolding read_all
    all_read_were_spelt zero bs g y h =
        subst (AllSpelt spell Good 0 bs) (let q : record { value = []; rest = bs } ≡ g = cc in q)
        (record { bytes = refl; good = tt; many = refl })
    all_read_were_spelt (suc n) bs g y h =
        let s = stepped (read bs) (λ (f : Got A). with (before f.value) (read_all read n f.rest)) g h in
        let f = s.value in
        let c = changed (read_all read n f.rest) (before f.value) g s.next in
        let k = back bs f y s.first in
        let t = all_read_were_spelt n f.rest c.value (bytes_after_lem (spell f.value) f.rest (subst Bytes k.bytes y)) c.first in
        subst (AllSpelt spell Good (suc n) bs) (sym c.is)
        (record {
          bytes =
              k.bytes ∙ ap (λ (l : List ℕ). spell f.value ++ l) t.bytes
              ∙ sym (append_assoc (spell f.value) (spell_all spell c.value.value) c.value.rest);
          good = (k.good, t.good);
          many = ap suc t.many;
        })

-- ---- numbers, by induction over their list

pub numbers_spelt_are_read : (ns rest : List ℕ) → AllGood Small ns
    → read_all read_number (length ns) (spell_all groups ns ++ rest) ≡ answered (record { value = ns; rest = rest })
numbers_spelt_are_read = all_spelt_are_read groups read_number Small spelt_is_read

pub numbers_read_were_spelt : (k : ℕ) (bs : List ℕ) (g : Got (List ℕ)) → Bytes bs → read_all read_number k bs ≡ answered g
    → AllSpelt groups Small k bs g
numbers_read_were_spelt =
    all_read_were_spelt groups read_number Small
    read_was_spelt
