-- Laws of the bytes of a row of any kind.
--     bytes-text, bytes-binary     the bytes, by the kind
--     length-bytes                 a row takes as many bytes as it is told to
--     length-known                 the length, by the timestamp and the samples
--     unread-row                   places past A and D are not read: the bytes are those of the row with these places zero
-- Assumes nothing.
use mathlib.Core.Path.{◌≡◌, refl, sym}
use mathlib.Core.Bool.{false}
use Prim.Native.Nat.{ℕ, ◌≤◌}
use lib.IntN.{pos}
use lib.ListN.{length, get_or}
use Rattle.ground.proofs.Filled.{get_or-padded}
use Rattle.model.specs.declared.Kind.TheVariants.{Ascii}
use Rattle.model.specs.declared.Layout.{Layout}
use Rattle.model.specs.declared.Row.{Row}
use Rattle.model.specs.Rows.{trimmed}
use Rattle.binary_row.specs.Rows as binary
use Rattle.binary_bytes.specs.Rows.{binary_of}
use Rattle.binary_bytes.proofs.RowLaws.{length-row, unread-bytes}
use Rattle.ascii_plain.specs.Rows.{text_of}
use Rattle.ascii_plain.specs.Inner.{text_length}
use Rattle.ascii_plain.proofs.LengthLaws.{length-text}
use Rattle.ascii_plain.proofs.LineLaws.{unread-text}
use Rattle.row_bytes.specs.Rows.{bytes_of}
use Rattle.row_bytes.specs.Inner.{length_of, length_by}
use Rattle.row_bytes.proofs.KindLaws.{text-kind, binary-kind, by-kind}

pub bytes-text : (l : Layout) → l.kind ≡ Ascii → (n : ℕ) (r : Row) → bytes_of l n r ≡ text_of l n r
unfolding bytes_of
bytes-text l text n r = text-kind l.kind (text_of l n r) (binary_of l n r) text

pub bytes-binary : (l : Layout) → (l.kind ≡ Ascii → ⊥) → (n : ℕ) (r : Row) → bytes_of l n r ≡ binary_of l n r
unfolding bytes_of
bytes-binary l other n r = binary-kind l.kind (text_of l n r) (binary_of l n r) other

pub length-bytes : (l : Layout) (n : ℕ) (r : Row) → length_of l n r ≡ length (bytes_of l n r)
unfolding length_of
length-bytes l n r =
    by-kind l.kind
    (λ e. rw (text-kind l.kind (text_length l n r) (binary.row_size l) e, bytes-text l e n r) (length-text l n r))
    (λ e. rw (binary-kind l.kind (text_length l n r) (binary.row_size l) e, bytes-binary l e n r) (sym (length-row l n r)))

pub length-known : (l : Layout) (n : ℕ) (r : Row) → length_by l n r.time r.samples ≡ length_of l n r
unfolding length_by length_of
length-known l n r = refl

pub unread-row : (l : Layout) (r : Row) (n : ℕ) → l.statuses ≤ length r.statuses → bytes_of l n (trimmed l r) ≡ bytes_of l n r
unfolding trimmed
unread-row l r n enough =
    by-kind l.kind
    (λ e.
    rw (bytes-text l e n (trimmed l r), bytes-text l e n r)
    (unread-text l n (trimmed l r) r refl
    (λ i h. get_or-padded (λ j. get_or r.samples j (pos 0)) l.analogs 96 i (pos 0) (pos 0) h)
    (λ i h. get_or-padded (λ j. get_or r.statuses j false) l.statuses 256 i false false h)))
    (λ e. rw (bytes-binary l e n (trimmed l r), bytes-binary l e n r) (unread-bytes l r n enough))
