-- NOTHING TO BELIEVE HERE: the room that a line of a listing needs.
use Rattle.std.specs.Prelude.{ℕ, ◌+◌, ◌*◌}
use Rattle.model.specs.declared.Layout.{Layout}

-- the most characters that a row's line can have: 10 for each of number and time, 12 for a sample, 2 for a status, a space and a line end
abbrev pub line_most : Layout → ℕ
line_most l = 22 + 12 * l.analogs + 2 * l.statuses
