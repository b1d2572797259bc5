-- NOTHING TO BELIEVE HERE: what is refused where there is no such kind; the law `call-refuses` (proofs/Laws.antt) says that it is what `write_config_call` says.
use Rattle.std.specs.Prelude.{Err, Ok, Result}
use Rattle.model.specs.declared.Refusal.{Refusal}

-- what an answer refuses, or else another refusal
abbrev pub refusal_or : {A : Type 0} → Result A Refusal → Refusal → Refusal
refusal_or (Ok a) other = other
refusal_or (Err r) other = r
