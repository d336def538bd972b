-- What a test tells.
use Rattle.std.specs.Prelude.{◌≡◌, Bool, true, false, cond, not, T}

-- of what is chosen by a test, whatever holds of either choice
pub by_test : {A : Type 0} (P : A → Type 0) (b : Bool) (x y : A) → (T b → P x) → (T (not b) → P y) → P (cond b x y)
by_test P true x y h k = h tt
by_test P false x y h k = k tt

-- from the equations that code and rules give
pub holds : {b : Bool} → b ≡ true → T b
holds e = rw e tt

pub fails : {b : Bool} → b ≡ false → T (not b)
fails e = rw e tt
