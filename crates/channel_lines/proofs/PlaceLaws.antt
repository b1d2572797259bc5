-- What a line of channels refuses with: each number at its place.
--     names-ruled, scale-ruled, limits-ruled, channels-ruled, analog-ruled, status-ruled     each line's rule, and the parts of a channel's
-- Assumes nothing.
use mathlib.Core.Bool.{not}
use mathlib.Core.List.{List}
use Prim.Native.Nat.{ℕ, ◌+◌}
use lib.Dec.{lit≤, eqb}
use Rattle.ground.specs.Said.{must}
use Rattle.text.specs.Fields.{field_at}
use Rattle.fields.specs.Fields.{read_count_in, read_lettered, read_state, read_side}
use Rattle.reals.specs.Exact.{read_limit, max_below}
use Rattle.line_fields.specs.Faults.{text_fault, index_fault, real_fault, side_fault, state_fault}
use Rattle.line_fields.specs.Checks.{fault, has_fields, faultless, value_at, value}
use Rattle.line_fields.proofs.PlaceLaws.{Ruled, text-check, index-check, real-check, value-check}
use Rattle.line_fields.proofs.PlaceLaws.{has-fields-ruled, then-ruled, bind-ruled, faultless-ruled, agrees-ruled, value-ruled}
use Rattle.channel_lines.specs.Channels.{channels_line, names, scale, limits, analog_line, status_line}

pub channels-ruled : (l : List ℕ) → Ruled (channels_line l)
unfolding channels_line
channels-ruled l =
    then-ruled (has_fields 3 l) _ (has-fields-ruled 3 l)
    (bind-ruled (value 1 (read_count_in 6 1 352) l) _ (value-ruled 1 (lit≤ tt) (read_count_in 6 1 352 (field_at 1 l))) (λ t.
    bind-ruled (value 2 (read_lettered 65 96) l) _ (value-ruled 2 (lit≤ tt) (read_lettered 65 96 (field_at 2 l))) (λ a.
    bind-ruled (value 3 (read_lettered 68 256) l) _ (value-ruled 3 (lit≤ tt) (read_lettered 68 256 (field_at 3 l))) (λ d.
    then-ruled (must (eqb t (a + d)) (fault 7 3)) _ (agrees-ruled 3 (lit≤ tt) (eqb t (a + d))) tt))))

pub names-ruled : (n i : ℕ) (l : List ℕ) → Ruled (names n i l)
unfolding names
names-ruled n i l =
    then-ruled (has_fields n l) _ (has-fields-ruled n l)
    (then-ruled (faultless 1 (index_fault i) l) _ (faultless-ruled 1 (lit≤ tt) (index_fault i) l (index-check i))
    (then-ruled (faultless 2 (text_fault 1 128) l) _ (faultless-ruled 2 (lit≤ tt) (text_fault 1 128) l (text-check 1 128))
    (then-ruled (faultless 3 (text_fault 0 2) l) _ (faultless-ruled 3 (lit≤ tt) (text_fault 0 2) l (text-check 0 2))
    (faultless-ruled 4 (lit≤ tt) (text_fault 0 64) l (text-check 0 64)))))

pub scale-ruled : (l : List ℕ) → Ruled (scale l)
unfolding scale
scale-ruled l =
    then-ruled (faultless 5 (text_fault 1 32) l) _ (faultless-ruled 5 (lit≤ tt) (text_fault 1 32) l (text-check 1 32))
    (then-ruled (faultless 6 real_fault l) _ (faultless-ruled 6 (lit≤ tt) real_fault l real-check)
    (then-ruled (faultless 7 real_fault l) _ (faultless-ruled 7 (lit≤ tt) real_fault l real-check)
    (faultless-ruled 8 (lit≤ tt) real_fault l real-check)))

pub limits-ruled : (l : List ℕ) → Ruled (limits l)
unfolding limits
limits-ruled l =
    bind-ruled (value_at 9 (read_limit (field_at 9 l))) _ (value-ruled 9 (lit≤ tt) (read_limit (field_at 9 l))) (λ low.
    bind-ruled (value_at 10 (read_limit (field_at 10 l))) _ (value-ruled 10 (lit≤ tt) (read_limit (field_at 10 l))) (λ high.
    agrees-ruled 10 (lit≤ tt) (not (max_below high low))))

pub analog-ruled : (i : ℕ) (l : List ℕ) → Ruled (analog_line i l)
unfolding analog_line
analog-ruled i l =
    then-ruled (names 13 i l) _ (names-ruled 13 i l)
    (then-ruled (scale l) _ (scale-ruled l)
    (then-ruled (limits l) _ (limits-ruled l)
    (then-ruled (faultless 11 real_fault l) _ (faultless-ruled 11 (lit≤ tt) real_fault l real-check)
    (then-ruled (faultless 12 real_fault l) _ (faultless-ruled 12 (lit≤ tt) real_fault l real-check)
    (faultless-ruled 13 (lit≤ tt) side_fault l (λ f. value-check (read_side f)))))))

pub status-ruled : (i : ℕ) (l : List ℕ) → Ruled (status_line i l)
unfolding status_line
status-ruled i l = then-ruled (names 5 i l) _ (names-ruled 5 i l) (faultless-ruled 5 (lit≤ tt) state_fault l (λ f. value-check (read_state f)))
