-- Laws of the line with which a text begins.
--     cut-within, bytes_cut      the line and its end lie within the text, and its bytes are bytes of lines
--     cut-ended, cut-last        a line that ends with CR LF is found, and so is one that ends with the text
-- Assumes nothing.
use mathlib.Core.Path.{◌≡◌, refl}
use mathlib.Core.Bool.{true}
use mathlib.Core.List.{List, [], ◌∷◌, ◌++◌, append-nil}
use Prim.Native.Nat.{ℕ, ◌+◌, ◌≤◌}
use native.Mathlib.Omega.{arith}
use borrow.Author.Tests.{ne_eqb}
use lib.ListN.{length, take, length-append}
use Rattle.std.proofs.Common.{Err, Ok, Result}
use Rattle.std.specs.Result.{result_unwrap_or}
use Rattle.text.specs.declared.LineError.{LineError}
use Rattle.text.specs.declared.Line.{Line}
use Rattle.text.specs.Lines.{scan_line, scan_last_line, line_bytes}
use Rattle.text.proofs.LineLaws.{FoundLast, last_found, bytes-passed, line-scanned}
use Rattle.rewrite_sorts.specs.Cuts.{cut_line}

-- a line that was scanned, or one of no bytes
abbrev cut_of : Result Line LineError → Line
cut_of k = result_unwrap_or k (record { len = 0; taken = 0 })

-- of a line, found or not
within_of : (s : List ℕ) (k : Result Line LineError) → FoundLast (length s) s k → ((cut_of k).len ≤ (cut_of k).taken) × ((cut_of k).taken ≤ length s)
within_of s (Ok one) f = (f.before, f.within)
within_of s (Err e) f = (omega arith, omega arith)

bytes-of : (s : List ℕ) (k : Result Line LineError) → FoundLast (length s) s k → line_bytes (take (cut_of k).len s) ≡ true
bytes-of s (Ok one) f = f.bytes
bytes-of s (Err e) f = refl

pub cut-within : (s : List ℕ) → ((cut_line s).len ≤ (cut_line s).taken) × ((cut_line s).taken ≤ length s)
unfolding cut_line
cut-within s = within_of s (scan_last_line (length s) s) (last_found (length s) s)

pub bytes_cut : (s : List ℕ) → line_bytes (take (cut_line s).len s) ≡ true
unfolding cut_line
bytes_cut s = bytes-of s (scan_last_line (length s) s) (last_found (length s) s)

pub cut-ended : (l u : List ℕ) → line_bytes l ≡ true → cut_line (l ++ 13 ∷ 10 ∷ u) ≡ record { len = length l; taken = length l + 2 }
unfolding cut_line scan_last_line
cut-ended l u ok =
    let s = l ++ 13 ∷ 10 ∷ u in
    let k = length-append l (13 ∷ 10 ∷ u) in
    rw (ne_eqb (length s) 0 (λ e. omega arith), line-scanned (length s) l u ok (omega arith))

pub cut-last : (l : List ℕ) → line_bytes l ≡ true → 1 ≤ length l → cut_line l ≡ record { len = length l; taken = length l }
unfolding cut_line scan_last_line scan_line
cut-last l ok h =
    let e = rw append-nil at (bytes-passed (length l) 0 l [] ok (omega arith)) in
    rw (ne_eqb (length l) 0 (λ z. omega arith), e)
