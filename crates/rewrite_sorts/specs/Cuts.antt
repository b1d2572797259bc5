-- Where a line of a configuration ends.
use Rattle.std.specs.Prelude.{List, ℕ, length}
use Rattle.std.specs.Result.{result_unwrap_or}
use Rattle.text.specs.declared.Line.{Line}
use Rattle.text.specs.Lines.{scan_last_line}

-- the line with which s begins, or one of no bytes; any line, since where a line ends with CR LF it does not matter that the last one need not
unfoldable pub cut_line : List ℕ → Line
cut_line s = result_unwrap_or (scan_last_line (length s) s) (record { len = 0; taken = 0 })
