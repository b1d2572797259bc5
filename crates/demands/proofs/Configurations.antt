-- The demands on configurations, as theorems; crate `paper` tells what a `Configuration` is, and crate `exact_config` proves them.
--     config-exactly     demand 2: the bytes s are accepted and show c exactly when they are a configuration that shows c
--     config-refused     demands 1 and 2: they are refused exactly when they are none
--     one-config         demand 2: a configuration shows one thing
--     sized-config       demand 2: its layout is allowed, so that no data call refuses it with 10
--     absent-exactly     demand 2: it shows that it has no last lines exactly where its edition is 1999
--     first-fault        demand 1: where the refusal is 2 to 8 at line k, the k - 1 lines before are right in their places, and then comes none that is right (crate `paper`, Order)
-- Assumes nothing.
pub use Rattle.exact_config.proofs.ExactLaws.{config-exactly, config-refused, one-config, sized-config, absent-exactly}
pub use Rattle.exact_config.proofs.FirstLaws.{first-fault}
