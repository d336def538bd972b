-- A list and its book balance: as many kept stars pass any test as stars of the book do, and no number stands twice. Every call keeps this.
use Rattle.std.specs.Prelude.{◌≡◌, refl, Bool, true, false, cond, not, ◌&&◌, List, [], ◌∷◌, ℕ, ◌+◌, ◌≤◌, ◌<◌, eqb, length, set, get_or, replicate}
use Rattle.std.proofs.Common.{sym, ap, ◌∙◌, subst, arith, eq-eqb, ne_eqb, eqb-true}
use Rattle.quantity.specs.rules.Answer.{Answer, answered, refused}
use Rattle.quantity.specs.laws.Steps.{same_value}
use Rattle.list.specs.rules.Stars.{is_kept, kept, nought}
use Rattle.list.specs.rules.Find.{index_of}
use Rattle.list.specs.declared.Star.{Star}
use Rattle.list_edit.specs.rules.Edit.{gathered}
use Rattle.list_edit.specs.notions.Ledger.{Call, adds, strikes, gathers, on_stars, without, booked, Ledger, entered, after_calls}
use Rattle.list_edit.specs.notions.Ledger.{star_ledger_of, one, how_many, has_number, both, held, Balanced}
use Rattle.list_edit.specs.laws.First.{found}
use Rattle.list_edit.specs.laws.Edit.{struck, placed}
use Rattle.list_edit.specs.laws.Gather.{gathered_keeps}
use Rattle.list_edit.specs.laws.HowMany.{how_many_set, how_many_empty, how_many_same, fewer, single, how_many_without, past_none}

how_many_kept : (p : Star → Bool) (rs : List Star) → how_many p (kept rs) ≡ how_many (held p) rs
how_many_kept p [] = refl
how_many_kept p (r ∷ rs) = go (is_kept r) (how_many_kept p rs)
  where
    go : (t : Bool) → how_many p (kept rs) ≡ how_many (held p) rs
        → how_many p (cond t (r ∷ kept rs) (kept rs)) ≡ one (t && p r) + how_many (held p) rs
    go true ih = omega (arith, ih)
    go false ih = omega (arith, ih)

-- gathering changes nothing of it
held_gathered : (p : Star → Bool) (rs : List Star) → how_many (held p) (gathered rs) ≡ how_many (held p) rs
held_gathered p rs = sym (how_many_kept p (gathered rs)) ∙ ap (how_many p) (gathered_keeps rs) ∙ how_many_kept p rs

-- who has a number above 0 is kept
held_numbered : (k : ℕ) → 0 < k → (r : Star) → has_number k r ≡ held (has_number k) r
held_numbered k h r = go (eqb r.number k) refl
  where
    never : (b : Bool) → false ≡ (b && false)
    never true = refl
    never false = refl

    go : (t : Bool) → eqb r.number k ≡ t → t ≡ (is_kept r && t)
    go true e = let n = eqb-true r.number k e in rw (ne_eqb r.number 0 (λ z. omega (arith, n, z)))
    go false e = never (is_kept r)

assoc : (a b c : Bool) → ((a && b) && c) ≡ (a && (b && c))
assoc true b c = refl
assoc false b c = refl

-- ---- each call that is answered

module _ (rs book : List Star) (b : Balanced rs book) where
  once_booked : (k : ℕ) → 0 < k → how_many (has_number k) book ≤ 1
  once_booked k h = omega (arith, b.same (has_number k), fewer is_kept (has_number k) rs, b.once k h)

  strike_balances : (k : ℕ) → 0 < k → index_of k rs < length rs → Balanced (set rs (index_of k rs) nought) (without k book)
  strike_balances k above h =
      record {
        same = λ p.
            let r = get_or rs (index_of k rs) nought in
            let is = eq-eqb r.number k (found k rs h) in
            let s = single (held p) (has_number k) rs (index_of k rs) (b.once k above) h is in
            let a = how_many_same (both (held p) (has_number k)) (held (both p (has_number k)))
            (λ x. assoc (is_kept x) (p x) (has_number k x)) rs in
            let t = how_many_set (held p) rs (index_of k rs) nought h in
            omega (arith, s, a, t, b.same (both p (has_number k)), b.same p, how_many_without p k book (once_booked k above));
        once = λ j hj.
            let t = how_many_set (has_number j) rs (index_of k rs) nought h in
            let z = ap one (ne_eqb 0 j (λ q. omega arith)) in
            omega (arith, t, z, b.once j hj);
      }

  add_balances : (r : Star) → is_kept r ≡ true → length rs ≤ index_of r.number rs → index_of 0 rs < length rs
      → Balanced (set rs (index_of 0 rs) r) (r ∷ book)
  add_balances r keep new h =
      record {
        same = λ p.
            let q = get_or rs (index_of 0 rs) nought in
            let is = eq-eqb q.number 0 (found 0 rs h) in
            let e = ap (λ (t : Bool). one (not t && p q)) is in
            let f = ap (λ (t : Bool). one (t && p r)) keep in
            let t = how_many_set (held p) rs (index_of 0 rs) r h in
            omega (arith, t, e, f, b.same p);
        once = λ j hj.
            let t = how_many_set (has_number j) rs (index_of 0 rs) r h in
            once_of j (eqb r.number j) refl t (b.once j hj);
      }
    where
      once_of : (j : ℕ) (u : Bool) → eqb r.number j ≡ u
          → how_many (has_number j) (set rs (index_of 0 rs) r) + one (has_number j (get_or rs (index_of 0 rs) nought))
          ≡ how_many (has_number j) rs + one (has_number j r)
          → how_many (has_number j) rs ≤ 1 → how_many (has_number j) (set rs (index_of 0 rs) r) ≤ 1
      once_of j true e t l =
          let q = ap one e in
          let is = eqb-true r.number j e in
          let none = subst (λ (n : ℕ). how_many (has_number n) rs ≡ 0) is (past_none r.number rs new) in
          omega (arith, t, q, none)
      once_of j false e t l = let q = ap one e in omega (arith, t, q, l)

  gather_balances : Balanced (gathered rs) book
  gather_balances =
      record {
        same = λ p. held_gathered p rs ∙ b.same p;
        once = λ k h.
            let e = how_many_same (has_number k) (held (has_number k)) (held_numbered k h) (gathered rs) in
            let f = how_many_same (has_number k) (held (has_number k)) (held_numbered k h) rs in
            omega (arith, e, f, held_gathered (has_number k) rs, b.once k h);
      }

  call_balances : (c : Call) (ts : List Star) → on_stars c rs ≡ answered ts → Balanced ts (booked c book)
  call_balances (adds r) ts e =
      let u = placed rs r ts e in
      subst (λ (l : List Star). Balanced l (r ∷ book)) (sym u.is) (add_balances r u.kept u.fresh u.there)
  call_balances (strikes k) ts e =
      let u = struck rs k ts e in
      subst (λ (l : List Star). Balanced l (without k book)) (sym u.is) (strike_balances k u.above u.there)
  call_balances gathers ts e = subst (λ (l : List Star). Balanced l book) (same_value e) gather_balances

-- ---- any calls, answered and refused

calls_balance : (cs : List Call) (g : Ledger (List Star)) → Balanced g.list g.book
    → Balanced (after_calls on_stars cs g).list (after_calls on_stars cs g).book
calls_balance [] g b = b
calls_balance (c ∷ cs) g b = calls_balance cs (entered (on_stars c g.list) c g) (go (on_stars c g.list) refl)
  where
    go : (a : Answer (List Star)) → on_stars c g.list ≡ a → Balanced (entered a c g).list (entered a c g).book
    go (answered ts) e = call_balances g.list g.book b c ts e
    go (refused n) e = b

empty_balances : (n : ℕ) → Balanced (replicate n nought) []
empty_balances n =
    record {
      same = λ p. how_many_empty (held p) refl n;
      once = λ k h. omega (arith, how_many_empty (has_number k) (ne_eqb 0 k (λ q. omega arith)) n);
    }

module _ (n : ℕ) (cs : List Call) where
  balance : Balanced (star_ledger_of n cs).list (star_ledger_of n cs).book
  balance = calls_balance cs (record { list = replicate n nought; book = [] }) (empty_balances n)

  pub kept_is_book : (p : Star → Bool) → how_many p (kept (star_ledger_of n cs).list) ≡ how_many p (star_ledger_of n cs).book
  kept_is_book p = how_many_kept p (star_ledger_of n cs).list ∙ balance.same p

  pub numbers_once : (k : ℕ) → 0 < k → how_many (has_number k) (star_ledger_of n cs).list ≤ 1
  numbers_once k h = balance.once k h
