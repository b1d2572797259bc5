-- What a rule says of its input, or why it refuses it. A rule is a do block over this, read from the top in the order of the refusals.
use Rattle.std.specs.Prelude.{Bool, List, ◌++◌, length, drop, Result, Ok, Err, if◌then◌else◌}

infixl 20 ◌>>=◌
infixl 20 ◌>>◌
-- a value, or a refusal
pub data Said (R A : Type 0) : Type 0 where
  says : A → Said R A
  refuses : R → Said R A

-- first one, and then what follows from what it says
abbrev pub ◌>>=◌ : {R A B : Type 0} → Said R A → (A → Said R B) → Said R B
◌>>=◌ (says a) f = f a
◌>>=◌ (refuses r) f = refuses r

-- first one, and then the next
abbrev pub ◌>>◌ : {R B : Type 0} → Said R (Unit {0}) → Said R B → Said R B
◌>>◌ (says a) next = next
◌>>◌ (refuses r) next = refuses r

-- a test that must hold, or the refusal
abbrev pub must : {R : Type 0} → Bool → R → Said R (Unit {0})
must t r = if t then says tt else refuses r

-- what the code answers for it: the value, or the refusal
abbrev pub answer_of : {R A : Type 0} → Said R A → Result A R
answer_of (says a) = Ok a
answer_of (refuses r) = Err r

-- what an answer says
abbrev pub answer_said : {R A : Type 0} → Result A R → Said R A
answer_said (Ok a) = says a
answer_said (Err r) = refuses r

-- what a lent buffer ends as: what was said, and then what stood there; a refusal leaves it as it was
abbrev pub over : {R A : Type 0} → Said R (List A) → List A → List A
over (says new) old = new ++ drop (length new) old
over (refuses r) old = old
