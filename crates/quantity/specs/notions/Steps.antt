-- What is known of the steps that led to an answer b: each was answered.
use Rattle.std.specs.Prelude.{◌≡◌}
use Rattle.quantity.specs.rules.Answer.{Answer, answered}

-- of work that went on by f
pub record Stepped {A B : Type 0} (x : Answer A) (f : A → Answer B) (b : B) : Type 0 where
  pub value : A
  pub first : x ≡ answered value
  pub next : f value ≡ answered b

-- of values changed by f
pub record Changed {A B : Type 0} (x : Answer A) (f : A → B) (b : B) : Type 0 where
  pub value : A
  pub first : x ≡ answered value
  pub is : b ≡ f value
