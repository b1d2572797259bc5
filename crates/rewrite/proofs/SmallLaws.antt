-- Laws of the size of a configuration.
--     accepted-small     one that is accepted has at most 65,536 bytes
-- Assumes nothing.
use mathlib.Core.Path.{◌≡◌}
use mathlib.Core.List.{List}
use Prim.Native.Nat.{ℕ, ◌≤◌}
use borrow.Author.Tests.{leb-true, leb-false}
use lib.Dec.{leb}
use lib.ListN.{length}
use Rattle.ground.proofs.Cases.{on_test, clash}
use Rattle.std.proofs.Common.{Ok}
use Rattle.config_rules.specs.declared.Config.{Config}
use Rattle.config.specs.Config.{read_config}
use Rattle.config.proofs.PaperLaws.{paper-long}

pub accepted-small : (s : List ℕ) (c : Config) → read_config s ≡ Ok c → length s ≤ 65536
accepted-small s c =
    on_test (leb (length s) 65536)
    (λ p. λ e. leb-true (length s) 65536 p)
    (λ p. rw (paper-long s (leb-false (length s) 65536 p)) (λ e. clash (cc)))
