-- DEMAND 1 on the calls: any bytes, any numbers, any buffers. That each call ends and touches nothing outside what it was lent is proved of the code;
-- these are theorems on the definitions that its contracts cite.
--     Ends, Lent              what a lent buffer holds at the end: a refusal leaves it as it was, a yes writes what it says and nothing past it
--     refused-unchanged       so of every call that writes
--     zeros-beside            beside a refusal there is no row and no configuration, and zeros in the exported answer alone
--     alike, no-such-row      what the check of a file refuses, showing a row of it, the length question and the change refuse alike; 15 comes before the file
--     as-the-question         the change refuses as the length question does, or else with 17
--     never-17                the length question never says 17
--     as-the-reader           the writer of a configuration refuses as its reader does, whatever the kind and the room
--     all_placed              each call gives each number at the place that the table has for it (Placed.antt)
--     shown-as-given          demand 2 of the exported pair: a row that zl_write_row takes is the one that zl_row shows with the places that it was given in
-- Assumes nothing.
use Rattle.std.specs.Prelude.{if◌then◌else◌}
use mathlib.Core.Path.{◌≡◌, refl, sym, ap, ◌∙◌}
use mathlib.Core.Logic.{◌⊎◌, inl, inr}
use mathlib.Core.Bool.{Bool, true, false}
use mathlib.Core.List.{List}
use Prim.Native.Nat.{ℕ, ◌+◌, ◌-◌, ◌≤◌}
use native.Mathlib.Omega.{arith}
use borrow.Author.Tests.{eqb-true, leb-true}
use lib.Dec.{lit≤, eqb, leb}
use lib.IntN.{ℤ}
use lib.ListN.{length, take, drop}
use Rattle.ground.specs.Said.{Said, says, refuses, ◌>>=◌, ◌>>◌, must, over, answer_of, answer_said}
use Rattle.ground.proofs.Cases.{on_test, clash}
use Rattle.ground.proofs.SaidLaws.{must-told, must-holds, bind-told, no_byte, only-told}
use Rattle.ground.proofs.RefusalLaws.{RefusesOnly, only-must, only_then, only-bind, only_wider, only-given}
use Rattle.model.specs.declared.Kind.{Kind}
use Rattle.std.proofs.Common.{Err, None, Option, Some, Result, Ok}
use Rattle.model.specs.declared.Layout.{Layout}
use Rattle.model.specs.declared.Row.{Row}
use Rattle.model.specs.declared.Refusal.{Refusal}
use Rattle.model.specs.Kinds.{kind_of}
use Rattle.model.specs.Editions.{has_kind}
use Rattle.model.specs.Layouts.{is_sized, in_kind}
use Rattle.model.specs.Refusals.{refused, reason_number}
use Rattle.model.proofs.AnswerLaws.{no-told}
use Rattle.config_rules.specs.declared.Config.{Config}
use Rattle.config.specs.Reading.{said_of}
use Rattle.config.specs.Config.{configuration, read_config}
use Rattle.row_bytes.specs.Rows.{bytes_of}
use Rattle.data.specs.Files.{file_fine, row_at, has_row, misfit_of, check_file, show_row, write_said}
use Rattle.data.proofs.Laws.{row_told, writable}
use Rattle.change.specs.Change.{change_said}
use Rattle.change_length.specs.Needed.{fit_rows, changed, bytes_needed}
use Rattle.change.proofs.ChangeLaws.{change-needs, changing}
use Rattle.row_places.specs.Rows.{places_of, row_places, unfit, row_of_places}
use Rattle.config_places.specs.Configs.{config_places}
use Rattle.config_places.proofs.ConfigLaws.{config-places}
use Rattle.row_places.proofs.RowLaws.{row-places, places-back}
use Rattle.reasons.specs.Reasons.{reason_of, text_said, reason_said}
use Rattle.answers.specs.declared.zl_answer.{zl_answer}
use Rattle.answers.specs.Answers.{told, told_written, told_shown, known, layout_of, placed}
use Rattle.calls_config.specs.Calls.{config_call}
use Rattle.calls_data.specs.Calls.{check_call, row_call, row_asked, write_call}
use Rattle.calls_data.specs.Inner.{row_in, write_in}
use Rattle.calls_change.specs.Calls.{length_call, change_call}
use Rattle.calls_change.specs.Inner.{needed_in, change_in}
use Rattle.rewrite.specs.Rewrite.{rewritten, result_said, rewrite_said}
use Rattle.calls_rewrite.specs.Calls.{write_config_call}
use Rattle.exact_rewrite.proofs.ExactLaws.{rewritten-exactly}
use Rattle.demands.proofs.Placed.{Placed, PlacedTo, configuration-size, sizes-or-kind, no_row, sample-unfit, no-room, config-placed, file-placed, fits-placed}

module _ {A : Type 0} where
  -- what a buffer that held `old` holds at the end, by what was said
  abbrev pub Ends : Said Refusal (List A) → List A → List A → Type 0
  Ends (says new) old end = (take (length new) end ≡ new) × (drop (length new) end ≡ drop (length new) old) × (length end ≡ length old)
  Ends (refuses r) old end = end ≡ old

  -- a call by the room that it is lent: every contract has `over` for what the buffer holds at the end
  abbrev pub Lent : (ℕ → Said Refusal (List A)) → Type 0
  Lent call = (old : List A) → Ends (call (length old)) old (over (call (length old)) old)

  -- what is said is no longer than the room
  abbrev Within : (ℕ → Said Refusal (List A)) → Type 0
  Within call = (room : ℕ) (new : List A) → call room ≡ says new → length new ≤ room

  lent : (call : ℕ → Said Refusal (List A)) → Within call → Lent call
  lent call within old = go (call (length old)) (within (length old))
    where
      go : (x : Said Refusal (List A)) → ((new : List A) → x ≡ says new → length new ≤ length old) → Ends x old (over x old)
      go (says new) h = only-told {R = Refusal} (says new) new old refl (h new refl)
      go (refuses r) h = no_byte (refuses r) r old refl

  -- what follows from what was said
  bind-within : {B : Type 0} (x : Said Refusal B) (f : B → ℕ → Said Refusal (List A)) → ((b : B) → Within (f b)) → Within (λ room. x >>= λ b. f b room)
  bind-within x f h room new e = let t = bind-told x (λ b. f b room) new e in h t.0 room new t.2

  -- so many places
  placed-within : (count : ℕ) (zs : List A) → length zs ≡ count → Within (placed count zs)
  placed-within count zs c room new e =
      let t = must-told (leb count room) (refused 17 0 0) (says zs) new e in
      let q : new ≡ zs = cc t.1 in
      rw (q, c) (leb-true count room t.0)

write-within : (l : Layout) (n : ℕ) (r : Row) → Within (write_said l n r)
write-within l n r room new e = (writable l n r room new e).within

change-within : (l : Layout) (s : List ℕ) (k : Kind) → Within (change_said l s k)
change-within l s k room new e = (changing l s k room new e).within

reason-within : (n : ℕ) → Within (reason_said n)
unfolding reason_said text_said
reason-within n = bind-within (reason_of n) text_said (λ text. placed-within (length text) text refl)

config-within : (s : List ℕ) → Within (config_call s)
unfolding config_call
config-within s = bind-within (answer_said (read_config s)) (λ c. placed 35 (config_places c)) (λ c. placed-within 35 (config_places c) (config-places c))

row_within : (l : Layout) (s : List ℕ) (n : ℕ) → Within (row_in l s n)
unfolding row_in
row_within l s n = bind-within (answer_said (show_row l s n)) (λ r. placed (places_of l) (row_places l r)) (λ r. placed-within (places_of l) (row_places l r) (row-places l r))

row-call-within : (a d rows kind edition : ℕ) (s : List ℕ) (n : ℕ) → Within (row_call a d rows kind edition s n)
unfolding row_call row_in
row-call-within a d rows kind edition s n = bind-within (known (layout_of a d rows kind edition)) (λ l. row_in l s n) (λ l. row_within l s n)

write-call-within : (a d rows kind edition n : ℕ) (zs : List ℤ) → Within (write_call a d rows kind edition n zs)
unfolding write_call write_in
write-call-within a d rows kind edition n zs =
    bind-within (known (layout_of a d rows kind edition)) (λ l. write_in l n zs) (λ l.
    bind-within (row_asked l n zs) (write_said l n) (write-within l n))

change-call-within : (a d rows kind edition : ℕ) (s : List ℕ) (new : ℕ) → Within (change_call a d rows kind edition s new)
unfolding change_call change_in
change-call-within a d rows kind edition s new =
    bind-within (known (layout_of a d rows kind edition)) (λ l. change_in l s new) (λ l.
    bind-within (known (kind_of new)) (change_said l s) (change-within l s))

rewrite-within : (s : List ℕ) (k : Kind) → Within (rewrite_said s k)
rewrite-within s k room new e = ((rewritten-exactly s k room new).0 e).5

write-config-within : (s : List ℕ) (kind : ℕ) → Within (write_config_call s kind)
unfolding write_config_call
write-config-within s kind =
    bind-within (answer_said (read_config s)) (λ c room. known (kind_of kind) >>= λ k. rewrite_said s k room) (λ c.
    bind-within (known (kind_of kind)) (rewrite_said s) (rewrite-within s))

-- DEMAND 1. On "no" no byte of a lent buffer is changed; on "yes" the bytes or places that were said stand at its front, and the rest is as it was
pub refused-unchanged :
    -- write_row, change, write_config and put_reason, which zl_reason hands on to
    ((l : Layout) (n : ℕ) (r : Row) → Lent (write_said l n r))
    × ((l : Layout) (s : List ℕ) (k : Kind) → Lent (change_said l s k))
    × ((s : List ℕ) (k : Kind) → Lent (rewrite_said s k))
    × ((n : ℕ) → Lent (reason_said n))
    -- zl_config, zl_row, zl_write_row, zl_change, zl_write_config
    × ((s : List ℕ) → Lent (config_call s))
    × ((a d rows kind edition : ℕ) (s : List ℕ) (n : ℕ) → Lent (row_call a d rows kind edition s n))
    × ((a d rows kind edition n : ℕ) (zs : List ℤ) → Lent (write_call a d rows kind edition n zs))
    × ((a d rows kind edition : ℕ) (s : List ℕ) (new : ℕ) → Lent (change_call a d rows kind edition s new))
    × ((s : List ℕ) (kind : ℕ) → Lent (write_config_call s kind))
refused-unchanged = (
  (λ l n r. lent (write_said l n r) (write-within l n r)),
  (λ l s k. lent (change_said l s k) (change-within l s k)),
  (λ s k. lent (rewrite_said s k) (rewrite-within s k)),
  (λ n. lent (reason_said n) (reason-within n)),
  (λ s. lent (config_call s) (config-within s)),
  (λ a d rows kind edition s n. lent (row_call a d rows kind edition s n) (row-call-within a d rows kind edition s n)),
  (λ a d rows kind edition n zs. lent (write_call a d rows kind edition n zs) (write-call-within a d rows kind edition n zs)),
  (λ a d rows kind edition s new. lent (change_call a d rows kind edition s new) (change-call-within a d rows kind edition s new)),
  (λ s kind. lent (write_config_call s kind) (write-config-within s kind)),
)

-- what showing row n says
abbrev showing : Layout → List ℕ → ℕ → Said Refusal Row
showing l s n = must (is_sized l) (refused 10 0 0) >> (must (has_row l n) (refused 15 0 0) >> (file_fine l s >> says (row_at l s (n - 1))))

-- nothing stands beside a refusal
nothing-beside : {A : Type 0} (x : Result A Refusal) (r : Refusal) → x ≡ Err r → (a : A) → x ≡ Ok a → ⊥
nothing-beside x r e a q = let w : Err r ≡ Ok a = sym e ∙ q in clash (cc)

-- the answer of an exported call that refuses
abbrev refusal : Refusal → zl_answer
refusal r = record { number = reason_number r.reason; at = r.at; field = r.field; length = 0 }

-- DEMAND 1. Zeros beside a "no": no row and no configuration at all, and in the answer of an exported call no length
pub zeros-beside :
    ((l : Layout) (s : List ℕ) (n : ℕ) (r : Refusal) → show_row l s n ≡ Err r → (row : Row) → show_row l s n ≡ Ok row → ⊥)
    × ((s : List ℕ) (r : Refusal) → read_config s ≡ Err r → (c : Config) → read_config s ≡ Ok c → ⊥)
    -- the exported calls: a length, bytes that are written, places that are shown
    × ((x : Said Refusal ℕ) (r : Refusal) → x ≡ refuses r → told x ≡ refusal r)
    × ((x : Said Refusal (List ℕ)) (r : Refusal) → x ≡ refuses r → told_written x ≡ refusal r)
    × ((x : Said Refusal (List ℤ)) (r : Refusal) → x ≡ refuses r → told_shown x ≡ refusal r)
zeros-beside = ((λ l s n. nothing-beside (show_row l s n)), (λ s. nothing-beside (read_config s)), (λ x r e. rw e), (λ x r e. rw e), (λ x r e. rw e))

-- what is refused is refused whatever comes after it
then-refuses : {B : Type 0} (x y : Said Refusal (Unit {0})) (z : Said Refusal B) (r : Refusal) → (x >> y) ≡ refuses r → (x >> (y >> z)) ≡ refuses r
then-refuses (says u) (says v) z r e = clash (cc)
then-refuses (says u) (refuses q) z r e = let w : q ≡ r = cc e in ap refuses w
then-refuses (refuses q) y z r e = let w : q ≡ r = cc e in ap refuses w

-- DEMAND 1. What the check of a file refuses, showing a row of it, the length question and the change to a kind of its edition refuse with the same number and place
pub alike : (l : Layout) (s : List ℕ) (r : Refusal) → check_file l s ≡ Err r
    → ((n : ℕ) → has_row l n ≡ true → show_row l s n ≡ Err r)
    × ((k : Kind) → has_kind l.edition k ≡ true → bytes_needed l s k ≡ refuses r)
    × ((k : Kind) (room : ℕ) → has_kind l.edition k ≡ true → change_said l s k room ≡ refuses r)
unfolding check_file show_row bytes_needed change_said
alike l s r e =
    let x = must (is_sized l) (refused 10 0 0) in
    let c : (x >> file_fine l s) ≡ refuses r = no-told (x >> file_fine l s) r e in (
      (λ n h. rw (h, then-refuses x (file_fine l s) (says (row_at l s (n - 1))) r c)),
      (λ k has. rw (has, then-refuses x (file_fine l s) (fit_rows (in_kind k l) (row_at l s) 0 l.rows >> says (length (changed l s k))) r c)),
      (λ k room has.
          rw (
            has,
            then-refuses x (file_fine l s)
                (fit_rows (in_kind k l) (row_at l s) 0 l.rows >> (must (leb (length (changed l s k)) room) (refused 17 0 0) >> says (changed l s k))) r c,
          )),
    )

-- DEMAND 1. A row that there is not: 15, whatever the file
pub no-such-row : (l : Layout) (s : List ℕ) (n : ℕ) → is_sized l ≡ true → has_row l n ≡ false
    → show_row l s n ≡ Err (refused 15 0 0)
unfolding show_row
no-such-row l s n ok none = rw (ok, none)

-- DEMAND 1. The change refuses as the length question does, or else with 17
pub as-the-question : (l : Layout) (s : List ℕ) (k : Kind) (room : ℕ) (r : Refusal)
    → (bytes_needed l s k ≡ refuses r → change_said l s k room ≡ refuses r)
    × (change_said l s k room ≡ refuses r → (bytes_needed l s k ≡ refuses r) ⊎ (r ≡ refused 17 0 0))
as-the-question l s k room r =
    let c = change-needs l s k room in
    ((λ e. c ∙ rw e), (λ e. go (bytes_needed l s k) (sym c ∙ e)))
  where
    go : (x : Said Refusal ℕ) → (x >>= λ m. must (leb m room) (refused 17 0 0) >> says (changed l s k)) ≡ refuses r → (x ≡ refuses r) ⊎ (r ≡ refused 17 0 0)
    go (says m) e = on_test (leb m room) (λ t. let q = rw t at e in clash (cc)) (λ t. let q = rw t at e in inr (cc))
    go (refuses q) e = let w : q ≡ r = cc e in inl (ap refuses w)

-- DEMAND 1. What the reading of a configuration refuses, the writer refuses with the same number and place, before it looks at the kind's number
pub as-the-reader : (s : List ℕ) (r : Refusal) → read_config s ≡ Err r
    → ((k : Kind) (room : ℕ) → rewrite_said s k room ≡ refuses r) × ((kind room : ℕ) → write_config_call s kind room ≡ refuses r)
unfolding rewrite_said write_config_call
as-the-reader s r e = ((λ k room. rw e), (λ kind room. rw e))

-- The calls refuse only so
-- the layout is within the limits
sized-only : (l : Layout) → RefusesOnly (PlacedTo 16) (must (is_sized l) (refused 10 0 0))
sized-only l = only-must (PlacedTo 16) (is_sized l) (refused 10 0 0) (λ e. (sizes-or-kind, lit≤ tt))

check-only : (l : Layout) (s : List ℕ) → RefusesOnly (PlacedTo 16) (must (is_sized l) (refused 10 0 0) >> file_fine l s)
check-only l s = only_then (PlacedTo 16) (must (is_sized l) (refused 10 0 0)) (file_fine l s) (sized-only l) (λ e. file-placed l s)

needed-only : (l : Layout) (s : List ℕ) (k : Kind) → RefusesOnly (PlacedTo 16) (bytes_needed l s k)
unfolding bytes_needed
needed-only l s k =
    let rows = fit_rows (in_kind k l) (row_at l s) 0 l.rows in
    let last = says (length (changed l s k)) in
    let kind = must (has_kind l.edition k) (refused 10 0 0) in
    only_then (PlacedTo 16) (must (is_sized l) (refused 10 0 0)) (kind >> (file_fine l s >> (rows >> last))) (sized-only l) (λ e.
    only_then (PlacedTo 16) kind (file_fine l s >> (rows >> last)) (only-must (PlacedTo 16) (has_kind l.edition k) (refused 10 0 0) (λ h. (sizes-or-kind, lit≤ tt))) (λ h.
    only_then (PlacedTo 16) (file_fine l s) (rows >> last) (file-placed l s) (λ f.
    only_then (PlacedTo 16) rows last (fits-placed (in_kind k l) (row_at l s) 0 l.rows) (λ g. tt))))

-- DEMAND 1. The length question never says 17
pub never-17 : (l : Layout) (s : List ℕ) (k : Kind) (r : Refusal) → bytes_needed l s k ≡ refuses r → reason_number r.reason ≡ 17 → ⊥
never-17 l s k r e n = omega (arith, (only-given (PlacedTo 16) (bytes_needed l s k) r e (needed-only l s k)).1)

change-only : (l : Layout) (s : List ℕ) (k : Kind) (room : ℕ) → RefusesOnly Placed (change_said l s k room)
change-only l s k room =
    rw (change-needs l s k room)
    (only-bind Placed (bytes_needed l s k) (λ m. must (leb m room) (refused 17 0 0) >> says (changed l s k))
    (only_wider (PlacedTo 16) Placed (bytes_needed l s k) (λ r p. p.0) (needed-only l s k)) (λ m e.
    only_then Placed (must (leb m room) (refused 17 0 0)) (says (changed l s k)) (only-must Placed (leb m room) (refused 17 0 0) (λ t. no-room)) (λ t. tt)))

show-only : (l : Layout) (s : List ℕ) (n : ℕ) → RefusesOnly (PlacedTo 16) (answer_said (show_row l s n))
unfolding show_row
show-only l s n = go (showing l s n)
    (only_then (PlacedTo 16) (must (is_sized l) (refused 10 0 0)) _ (sized-only l) (λ e.
    only_then (PlacedTo 16) (must (has_row l n) (refused 15 0 0)) _ (only-must (PlacedTo 16) (has_row l n) (refused 15 0 0) (λ t. (no_row, lit≤ tt))) (λ f.
    only_then (PlacedTo 16) (file_fine l s) (says (row_at l s (n - 1))) (file-placed l s) (λ g. tt))))
  where
    go : (x : Said Refusal Row) → RefusesOnly (PlacedTo 16) x → RefusesOnly (PlacedTo 16) (answer_said (answer_of x))
    go (says r) p = tt
    go (refuses r) p = p

-- a row that there is, and its field k, from the first on
unfit-only : {B : Type 0} (l : Layout) (n k : ℕ) (t : Bool) (y : Said Refusal B) → 1 ≤ k → RefusesOnly Placed y
    → RefusesOnly Placed (must (has_row l n) (refused 15 0 0) >> (must t (refused 16 n k) >> y))
unfit-only l n k t y h p =
    only_then Placed (must (has_row l n) (refused 15 0 0)) (must t (refused 16 n k) >> y) (only-must Placed (has_row l n) (refused 15 0 0) (λ e. no_row)) (λ e.
    let q = row_told l n (must-holds (has_row l n) (refused 15 0 0) e) in
    only_then Placed (must t (refused 16 n k)) y (only-must Placed t (refused 16 n k) (λ f. sample-unfit n k q.0 h)) (λ f. p))

write-only : (l : Layout) (n : ℕ) (r : Row) (room : ℕ) → RefusesOnly Placed (write_said l n r room)
unfolding write_said
write-only l n r room =
    let bad = misfit_of l r in
    let last = must (leb (length (bytes_of l n r)) room) (refused 17 0 0) >> says (bytes_of l n r) in
    only_then Placed (must (is_sized l) (refused 10 0 0)) _ (only-must Placed (is_sized l) (refused 10 0 0) (λ e. sizes-or-kind)) (λ e.
    unfit-only l n (3 + bad) (eqb bad l.analogs) last (omega arith)
    (only_then Placed (must (leb (length (bytes_of l n r)) room) (refused 17 0 0)) (says (bytes_of l n r))
    (only-must Placed (leb (length (bytes_of l n r)) room) (refused 17 0 0) (λ f. no-room)) (λ f. tt)))

asked-only : (l : Layout) (n : ℕ) (zs : List ℤ) → RefusesOnly Placed (row_asked l n zs)
unfolding row_asked
asked-only l n zs =
    only_then Placed (must (is_sized l) (refused 10 0 0)) _ (only-must Placed (is_sized l) (refused 10 0 0) (λ e. sizes-or-kind)) (λ e.
    only_then Placed (must (leb (places_of l) (length zs)) (refused 10 0 0)) _ (only-must Placed (leb (places_of l) (length zs)) (refused 10 0 0) (λ f. sizes-or-kind)) (λ f.
    unfit-only l n (2 + unfit l zs) (eqb (unfit l zs) (places_of l)) (says (row_of_places l zs)) (omega arith) tt))

known-only : {A : Type 0} (o : Option A) → RefusesOnly Placed (known o)
known-only (Some a) = tt
known-only None = sizes-or-kind

placed-only : {A : Type 0} (count : ℕ) (zs : List A) (room : ℕ) → RefusesOnly Placed (placed count zs room)
placed-only count zs room =
    only_then Placed (must (leb count room) (refused 17 0 0)) (says zs) (only-must Placed (leb count room) (refused 17 0 0) (λ e. no-room)) (λ e. tt)

config-only : (s : List ℕ) → RefusesOnly Placed (answer_said (read_config s))
unfolding read_config
config-only s = go (said_of (configuration (1, s))) (config-placed s)
  where
    go : (x : Said Refusal Config) → RefusesOnly (PlacedTo 9) x → RefusesOnly Placed (answer_said (answer_of x))
    go (says c) p = tt
    go (refuses r) p = p.0

-- a check's refusal
accepted-only : (l : Layout) (s : List ℕ) → RefusesOnly Placed (answer_said (check_file l s))
unfolding check_file
accepted-only l s = go (must (is_sized l) (refused 10 0 0) >> file_fine l s) (check-only l s)
  where
    go : (x : Said Refusal (Unit {0})) → RefusesOnly (PlacedTo 16) x → RefusesOnly Placed (answer_said (answer_of x))
    go (says u) p = tt
    go (refuses r) p = p.0

-- a text for a number
text-only : (t : Bool) (text : List ℕ) (y : Said Refusal (List ℕ)) → RefusesOnly Placed y → RefusesOnly Placed (if t then says text else y)
text-only true text y p = tt
text-only false text y p = p

reason-only : (n room : ℕ) → RefusesOnly Placed (reason_said n room)
unfolding reason_said text_said reason_of
reason-only n room =
    let t = text-only in
    only-bind Placed (reason_of n) (λ text. text_said text room)
    (t (eqb n 1) _ _ (t (eqb n 2) _ _ (t (eqb n 3) _ _ (t (eqb n 4) _ _ (t (eqb n 5) _ _ (t (eqb n 6) _ _
    (t (eqb n 7) _ _ (t (eqb n 8) _ _ (t (eqb n 9) _ _ (t (eqb n 10) _ _ (t (eqb n 11) _ _ (t (eqb n 12) _ _
    (t (eqb n 13) _ _ (t (eqb n 14) _ _ (t (eqb n 15) _ _ (t (eqb n 16) _ _ (t (eqb n 17) _ _ sizes-or-kind)))))))))))))))))
    (λ text e. placed-only (length text) text room)

-- the exported calls
config-call-only : (s : List ℕ) (room : ℕ) → RefusesOnly Placed (config_call s room)
unfolding config_call
config-call-only s room = only-bind Placed (answer_said (read_config s)) (λ c. placed 35 (config_places c) room) (config-only s) (λ c e. placed-only 35 (config_places c) room)

-- of a kind by its number
by_number : {A : Type 0} (kind : ℕ) (f : Kind → Said Refusal A) → ((k : Kind) → RefusesOnly Placed (f k)) → RefusesOnly Placed (known (kind_of kind) >>= f)
by_number kind f p = only-bind Placed (known (kind_of kind)) f (known-only (kind_of kind)) (λ k e. p k)

-- of a layout by its numbers
by_layout : {A : Type 0} (l : Option Layout) (f : Layout → Said Refusal A) → ((l : Layout) → RefusesOnly Placed (f l)) → RefusesOnly Placed (known l >>= f)
by_layout l f p = only-bind Placed (known l) f (known-only l) (λ k e. p k)

check-call-only : (a d rows kind edition : ℕ) (s : List ℕ) → RefusesOnly Placed (check_call a d rows kind edition s)
unfolding check_call
check-call-only a d rows kind edition s =
    by_layout (layout_of a d rows kind edition) (λ l. answer_said (check_file l s) >> says 0) (λ l.
    only_then Placed (answer_said (check_file l s)) (says 0) (accepted-only l s) (λ e. tt))

row-call-only : (a d rows kind edition : ℕ) (s : List ℕ) (n room : ℕ) → RefusesOnly Placed (row_call a d rows kind edition s n room)
unfolding row_call row_in
row-call-only a d rows kind edition s n room =
    by_layout (layout_of a d rows kind edition) (λ l. row_in l s n room) (λ l.
    only-bind Placed (answer_said (show_row l s n)) (λ r. placed (places_of l) (row_places l r) room)
    (only_wider (PlacedTo 16) Placed (answer_said (show_row l s n)) (λ r p. p.0) (show-only l s n))
    (λ r e. placed-only (places_of l) (row_places l r) room))

write-call-only : (a d rows kind edition n : ℕ) (zs : List ℤ) (room : ℕ) → RefusesOnly Placed (write_call a d rows kind edition n zs room)
unfolding write_call write_in
write-call-only a d rows kind edition n zs room =
    by_layout (layout_of a d rows kind edition) (λ l. write_in l n zs room) (λ l.
    only-bind Placed (row_asked l n zs) (λ r. write_said l n r room) (asked-only l n zs) (λ r e. write-only l n r room))

length-call-only : (a d rows kind edition : ℕ) (s : List ℕ) (new : ℕ) → RefusesOnly Placed (length_call a d rows kind edition s new)
unfolding length_call needed_in
length-call-only a d rows kind edition s new =
    by_layout (layout_of a d rows kind edition) (λ l. needed_in l s new) (λ l.
    by_number new (bytes_needed l s) (λ m.
    only_wider (PlacedTo 16) Placed (bytes_needed l s m) (λ r p. p.0) (needed-only l s m)))

change-call-only : (a d rows kind edition : ℕ) (s : List ℕ) (new room : ℕ) → RefusesOnly Placed (change_call a d rows kind edition s new room)
unfolding change_call change_in
change-call-only a d rows kind edition s new room =
    by_layout (layout_of a d rows kind edition) (λ l. change_in l s new room) (λ l.
    by_number new (λ m. change_said l s m room) (λ m. change-only l s m room))

result-only : (new : List ℕ) (room : ℕ) → RefusesOnly Placed (result_said new room)
unfolding result_said
result-only new room =
    only_then Placed (must (leb (length new) 65536) (refused 1 0 0)) _ (only-must Placed (leb (length new) 65536) (refused 1 0 0) (λ e. configuration-size)) (λ e.
    only_then Placed (must (leb (length new) room) (refused 17 0 0)) (says new) (only-must Placed (leb (length new) room) (refused 17 0 0) (λ f. no-room)) (λ f. tt))

rewrite-only : (s : List ℕ) (k : Kind) (room : ℕ) → RefusesOnly Placed (rewrite_said s k room)
unfolding rewrite_said
rewrite-only s k room =
    only-bind Placed (answer_said (read_config s)) (λ c. must (has_kind c.layout.edition k) (refused 10 0 0) >> result_said (rewritten c k s) room) (config-only s) (λ c e.
    only_then Placed (must (has_kind c.layout.edition k) (refused 10 0 0)) (result_said (rewritten c k s) room)
    (only-must Placed (has_kind c.layout.edition k) (refused 10 0 0) (λ f. sizes-or-kind)) (λ f. result-only (rewritten c k s) room))

write-config-only : (s : List ℕ) (kind room : ℕ) → RefusesOnly Placed (write_config_call s kind room)
unfolding write_config_call
write-config-only s kind room =
    only-bind Placed (answer_said (read_config s)) (λ c. known (kind_of kind) >>= λ k. rewrite_said s k room) (config-only s) (λ c e.
    by_number kind (λ k. rewrite_said s k room) (λ k. rewrite-only s k room))

-- DEMAND 1. Each call that refuses gives the number at its place
pub all_placed :
    ((s : List ℕ) (r : Refusal) → read_config s ≡ Err r → Placed r)
    × ((l : Layout) (s : List ℕ) (r : Refusal) → check_file l s ≡ Err r → Placed r)
    × ((l : Layout) (s : List ℕ) (n : ℕ) (r : Refusal) → show_row l s n ≡ Err r → Placed r)
    × ((l : Layout) (n : ℕ) (row : Row) (room : ℕ) (r : Refusal) → write_said l n row room ≡ refuses r → Placed r)
    × ((l : Layout) (s : List ℕ) (k : Kind) (r : Refusal) → bytes_needed l s k ≡ refuses r → Placed r)
    × ((l : Layout) (s : List ℕ) (k : Kind) (room : ℕ) (r : Refusal) → change_said l s k room ≡ refuses r → Placed r)
    × ((s : List ℕ) (k : Kind) (room : ℕ) (r : Refusal) → rewrite_said s k room ≡ refuses r → Placed r)
    × ((n room : ℕ) (r : Refusal) → reason_said n room ≡ refuses r → Placed r)
    -- zl_config, zl_check, zl_row, zl_write_row, zl_length, zl_change, zl_write_config
    × ((s : List ℕ) (room : ℕ) (r : Refusal) → config_call s room ≡ refuses r → Placed r)
    × ((a d rows kind edition : ℕ) (s : List ℕ) (r : Refusal) → check_call a d rows kind edition s ≡ refuses r → Placed r)
    × ((a d rows kind edition : ℕ) (s : List ℕ) (n room : ℕ) (r : Refusal) → row_call a d rows kind edition s n room ≡ refuses r → Placed r)
    × ((a d rows kind edition n : ℕ) (zs : List ℤ) (room : ℕ) (r : Refusal) → write_call a d rows kind edition n zs room ≡ refuses r → Placed r)
    × ((a d rows kind edition : ℕ) (s : List ℕ) (new : ℕ) (r : Refusal) → length_call a d rows kind edition s new ≡ refuses r → Placed r)
    × ((a d rows kind edition : ℕ) (s : List ℕ) (new room : ℕ) (r : Refusal) → change_call a d rows kind edition s new room ≡ refuses r → Placed r)
    × ((s : List ℕ) (kind room : ℕ) (r : Refusal) → write_config_call s kind room ≡ refuses r → Placed r)
all_placed = (
  (λ s r e. only-given Placed (answer_said (read_config s)) r (rw e) (config-only s)),
  (λ l s r e. only-given Placed (answer_said (check_file l s)) r (rw e) (accepted-only l s)),
  (λ l s n r e. (only-given (PlacedTo 16) (answer_said (show_row l s n)) r (rw e) (show-only l s n)).0),
  (λ l n row room r e. only-given Placed (write_said l n row room) r e (write-only l n row room)),
  (λ l s k r e. (only-given (PlacedTo 16) (bytes_needed l s k) r e (needed-only l s k)).0),
  (λ l s k room r e. only-given Placed (change_said l s k room) r e (change-only l s k room)),
  (λ s k room r e. only-given Placed (rewrite_said s k room) r e (rewrite-only s k room)),
  (λ n room r e. only-given Placed (reason_said n room) r e (reason-only n room)),
  (λ s room r e. only-given Placed (config_call s room) r e (config-call-only s room)),
  (λ a d rows kind edition s r e. only-given Placed (check_call a d rows kind edition s) r e (check-call-only a d rows kind edition s)),
  (λ a d rows kind edition s n room r e. only-given Placed (row_call a d rows kind edition s n room) r e (row-call-only a d rows kind edition s n room)),
  (λ a d rows kind edition n zs room r e. only-given Placed (write_call a d rows kind edition n zs room) r e (write-call-only a d rows kind edition n zs room)),
  (λ a d rows kind edition s new r e. only-given Placed (length_call a d rows kind edition s new) r e (length-call-only a d rows kind edition s new)),
  (λ a d rows kind edition s new room r e. only-given Placed (change_call a d rows kind edition s new room) r e (change-call-only a d rows kind edition s new room)),
  (λ s kind room r e. only-given Placed (write_config_call s kind room) r e (write-config-only s kind room)),
)

-- DEMAND 2, the exported pair. The places of a row that was handed in are those that it was handed in by; places past 1 + A + D are not read
pub shown-as-given : (l : Layout) (n : ℕ) (zs : List ℤ) (r : Row) → row_asked l n zs ≡ says r → row_places l r ≡ take (places_of l) zs
unfolding row_asked
shown-as-given l n zs r e =
    let fits = must (eqb (unfit l zs) (places_of l)) (refused 16 n (2 + unfit l zs)) >> says (row_of_places l zs) in
    let there = must (has_row l n) (refused 15 0 0) >> fits in
    let a = must-told (is_sized l) (refused 10 0 0) (must (leb (places_of l) (length zs)) (refused 10 0 0) >> there) r e in
    let b = must-told (leb (places_of l) (length zs)) (refused 10 0 0) there r a.1 in
    let c = must-told (has_row l n) (refused 15 0 0) fits r b.1 in
    let d = must-told (eqb (unfit l zs) (places_of l)) (refused 16 n (2 + unfit l zs)) (says (row_of_places l zs)) r c.1 in
    let q : r ≡ row_of_places l zs = cc d.1 in
    rw q (places-back l zs (eqb-true (unfit l zs) (places_of l) d.0) (leb-true (places_of l) (length zs) b.0))
