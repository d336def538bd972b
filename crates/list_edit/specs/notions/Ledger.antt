-- Calls on a list one after the other, answered and refused, and the book that is kept beside them.
use Rattle.std.specs.Prelude.{ℕ, ◌+◌, ◌*◌, ◌≤◌, ◌<◌, ◌≡◌, Bool, true, cond, ◌&&◌, List, [], ◌∷◌, ◌++◌, eqb, replicate}
use Rattle.quantity.specs.rules.Answer.{Answer, answered, refused}
use Rattle.list.specs.rules.Record.{width, in_range, Fitting}
use Rattle.list.specs.rules.Stars.{is_list, is_kept, nought, list_bytes, AllFitting}
use Rattle.list.specs.declared.Star.{Star}
use Rattle.list_edit.specs.rules.Edit.{strike_in, add_in, gather_in, strike_rule, add_rule, gather_rule}

pub data Call : Type 0 where
  adds : Star → Call
  strikes : ℕ → Call
  gathers : Call

-- a call on bytes, and on the stars of a list
abbrev pub on_bytes : Call → List ℕ → Answer (List ℕ)
on_bytes (adds r) s = add_rule s r
on_bytes (strikes number) s = strike_rule s number
on_bytes gathers s = gather_rule s

abbrev pub on_stars : Call → List Star → Answer (List Star)
on_stars (adds r) rs = add_in r rs
on_stars (strikes number) rs = strike_in number rs
on_stars gathers rs = gather_in rs

-- the first with the number taken out
abbrev pub without : ℕ → List Star → List Star
without number [] = []
without number (r ∷ rs) = cond (eqb r.number number) rs (r ∷ without number rs)

-- the book after an answered call: the answered adds less the answered strikes
abbrev pub booked : Call → List Star → List Star
booked (adds r) book = r ∷ book
booked (strikes number) book = without number book
booked gathers book = book

-- a list, by its bytes or by its stars, and its book
pub record Ledger (A : Type 0) : Type 0 where
  pub list : A
  pub book : List Star

abbrev pub entered : {A : Type 0} → Answer A → Call → Ledger A → Ledger A
entered (answered x) c g = record { list = x; book = booked c g.book }
entered (refused n) c g = g

abbrev pub after_calls : {A : Type 0} → (Call → A → Answer A) → List Call → Ledger A → Ledger A
after_calls perform [] g = g
after_calls perform (c ∷ cs) g = after_calls perform cs (entered (perform c g.list) c g)

-- from n places on that are all zero, with an empty book
abbrev pub ledger_of : ℕ → List Call → Ledger (List ℕ)
ledger_of n cs = after_calls on_bytes cs (record { list = replicate (width * n) 0; book = [] })

abbrev pub star_ledger_of : ℕ → List Call → Ledger (List Star)
star_ledger_of n cs = after_calls on_stars cs (record { list = replicate n nought; book = [] })

-- each star that is added has words for its fields, as one of the code's always has
abbrev pub FittingCall : Call → Type 0
FittingCall (adds r) = Fitting r
FittingCall (strikes number) = Unit {0}
FittingCall gathers = Unit {0}

abbrev pub AllFittingCalls : List Call → Type 0
AllFittingCalls [] = Unit {0}
AllFittingCalls (c ∷ cs) = FittingCall c × AllFittingCalls cs

-- how many stars pass a test
abbrev pub one : Bool → ℕ
one b = cond b 1 0

abbrev pub how_many : (Star → Bool) → List Star → ℕ
how_many passes [] = 0
how_many passes (r ∷ rs) = one (passes r) + how_many passes rs

abbrev pub has_number : ℕ → Star → Bool
has_number number r = eqb r.number number

-- passes both tests; is kept and passes
abbrev pub both : (Star → Bool) → (Star → Bool) → Star → Bool
both p q r = p r && q r

abbrev pub held : (Star → Bool) → Star → Bool
held p = both is_kept p

-- ---- what holds through all calls: a list balances with its book, and its bytes follow its stars

pub record Balanced (rs book : List Star) : Type 0 where
  pub same : (p : Star → Bool) → how_many (held p) rs ≡ how_many p book
  pub once : (k : ℕ) → 0 < k → how_many (has_number k) rs ≤ 1

pub record Follows (g : Ledger (List ℕ)) (h : Ledger (List Star)) : Type 0 where
  pub bytes : g.list ≡ list_bytes h.list
  pub book : g.book ≡ h.book
  pub fits : AllFitting h.list
  pub is : is_list g.list ≡ true

-- ---- stars of which each can be added after those before it, and their adds

abbrev pub Addable : List Star → List Star → Type 0
Addable before [] = Unit {0}
Addable before (r ∷ rs) =
    (is_kept r ≡ true) × ((in_range r ≡ true) × ((how_many (has_number r.number) before ≡ 0) × Addable (before ++ (r ∷ [])) rs))

abbrev pub adds_of : List Star → List Call
adds_of [] = []
adds_of (r ∷ rs) = adds r ∷ adds_of rs
