-- A line as it is written is what it was: the record of a line holds of it.
--     fields-written             its fields are those of the line, each as it is written
--     line-written               so it is what the line is written as, told by its fields
--     kind-long, word-short      the kind's line has at least 5 characters, and its word at most 8
--     kept-written, channels-written to codes-written     each line of a configuration
--     kind-written               the kind's line in another kind, which the edition has
-- Assumes nothing.
use mathlib.Core.Path.{◌≡◌, refl, ap, ◌∙◌}
use mathlib.Core.Logic.{◌⊎◌, inl, inr}
use mathlib.Core.Bool.{Bool, true, false}
use mathlib.Core.List.{List, [], ◌∷◌, append-nil}
use Prim.Native.Nat.{ℕ, suc, ◌+◌, ◌-◌, ◌≤◌}
use native.Mathlib.Omega.{arith}
use lib.Dec.{lit≤}
use lib.IntN.{ℤ}
use lib.ListN.{length}
use Rattle.text.specs.Fields.{field_count, field_at}
use Rattle.numerals.specs.Counts.{leading_spaces}
use Rattle.reals.specs.declared.Sign.{Sign}
use Rattle.reals.specs.declared.Sign.TheVariants.{Above}
use Rattle.model.specs.declared.Kind.{Kind}
use Rattle.model.specs.declared.Kind.TheVariants.{Ascii, Binary, Binary32}
use Rattle.model.specs.declared.Edition.{Edition}
use Rattle.model.specs.Kinds.{kind_name}
use Rattle.model.specs.Editions.{has_kind}
use Rattle.paper.specs.Fields.{lowered, kind_word, AnyReal}
use Rattle.paper.specs.Lines.{Line, Fields, ChannelsLine, AnalogLine, StatusLine, FrequencyLine, RatesLine, RateLine, KindLine, MultiplierLine, CodesLine}
use Rattle.exact.proofs.CountLaws.{spaces-split}
use Rattle.exact.proofs.KindLaws.{has-exactly}
use Rattle.exact.proofs.CommaLaws.{fields-exactly, fields-of}
use Rattle.rewrite_lines.specs.declared.LineSort.{LineSort}
use Rattle.rewrite_lines.specs.declared.LineSort.TheVariants.{Kept, Numbers, Analog, Status, Word}
use Rattle.rewrite_lines.specs.Lines.{is_number, bare, field_text, fields_text, line_text}
use Rattle.pieces.proofs.Laws.{kind-short}
use Rattle.exact_rewrite.specs.Lines.{FieldWritten, FieldsWritten, LineWritten}
use Rattle.rewrite_lines.proofs.FieldLaws.{bare-none, count-text, field-text, bytes-text}
use Rattle.exact_rewrite.proofs.FieldLaws.{count-bare, in-bare, lettered-bare, real-bare, any-bare, limits-bare, code-bare, local-bare}

pub fields-written : (sort : LineSort) (n : ℕ) (f : ℕ → List ℕ) (l : List ℕ) → 1 ≤ n → Fields n f l → Fields n (λ i. field_text (is_number sort i) (f i)) (fields_text sort l)
unfolding field_count
fields-written sort n f l h w =
    let (count, each) = (fields-exactly n f l h).0 w in
    (fields-exactly n (λ i. field_text (is_number sort i) (f i)) (fields_text sort l) h).1 (
      count-text sort l ∙ count,
      λ i p q.
          let e : i - 1 + 1 ≡ i = omega arith in
          let t : field_at i (fields_text sort l) ≡ field_text (is_number sort i) (field_at i l) = rw e at (field-text sort l (i - 1) (omega arith)) in
          t ∙ ap (field_text (is_number sort i)) (each i p q),
    )

-- a field without its leading spaces
no-space : (g r : List ℕ) → leading_spaces g ≡ 0 → g ≡ 32 ∷ r → ⊥
no-space g r h e = let q : leading_spaces (32 ∷ r) ≡ 0 = rw e at h in omega arith

field-written : (t : Bool) (f : List ℕ) → FieldWritten t f (field_text t f)
field-written true f = ((leading_spaces f, spaces-split f), λ r. no-space (bare f) r (bare-none f))
field-written false f = refl

fields-there : (sort : LineSort) (l : List ℕ) → FieldsWritten sort l (fields_text sort l)
unfolding field_count
fields-there sort l =
    let old = fields-of (field_count l) l (omega arith) refl in
    record {
      count = field_count l;
      old = λ i. field_at i l;
      new = λ i. field_text (is_number sort i) (field_at i l);
      before = old;
      after = fields-written sort (field_count l) (λ i. field_at i l) l (omega arith) old;
      each = λ i p q. field-written (is_number sort i) (field_at i l);
    }

pub line-written : (k : Kind) (sort : LineSort) (l : List ℕ) → LineWritten k sort l (line_text k sort l)
unfolding line_text
line-written k Kept l = refl
line-written k Numbers l = fields-there Numbers l
line-written k Analog l = fields-there Analog l
line-written k Status l = fields-there Status l
line-written k Word l = refl

-- a line by its sort
module _ {P : List ℕ → Type 0} where
  fields-line : (k : Kind) (sort : LineSort) (l : List ℕ) → line_text k sort l ≡ fields_text sort l → (P l → P (fields_text sort l)) → Line P l → Line P (line_text k sort l)
  fields-line k sort l e is w = rw e (record { bytes = bytes-text sort l w.bytes; is = is w.is })

  pub kept-written : (k : Kind) (l : List ℕ) → Line P l → Line P (line_text k Kept l)
  unfolding line_text
  kept-written k l w = w

  numbers-line : (k : Kind) (l : List ℕ) → (P l → P (fields_text Numbers l)) → Line P l → Line P (line_text k Numbers l)
  unfolding line_text
  numbers-line k l = fields-line k Numbers l refl

pub channels-written : (k : Kind) (a d : ℕ) (l : List ℕ) → Line (ChannelsLine a d) l → Line (ChannelsLine a d) (line_text k Numbers l)
unfolding is_number
channels-written k a d l = numbers-line k l (λ w.
    record {
      f = λ i. field_text (is_number Numbers i) (w.f i);
      fields = fields-written Numbers 3 w.f l (lit≤ tt) w.fields;
      total = in-bare 6 1 352 (a + d) (w.f 1) w.total;
      analogs = lettered-bare "A" 96 a (w.f 2) w.analogs;
      statuses = lettered-bare "D" 256 d (w.f 3) w.statuses;
    })

pub analog-written : (k : Kind) (i : ℕ) (l : List ℕ) → Line (AnalogLine i) l → Line (AnalogLine i) (line_text k Analog l)
unfolding is_number line_text
analog-written k i l = fields-line k Analog l refl (λ w.
    record {
      f = λ j. field_text (is_number Analog j) (w.f j);
      fields = fields-written Analog 13 w.f l (lit≤ tt) w.fields;
      names = record { index = count-bare 6 i (w.f 1) w.names.index; name = w.names.name; phase = w.names.phase; circuit = w.names.circuit };
      unit = w.unit;
      a = any-bare (w.f 6) w.a;
      b = any-bare (w.f 7) w.b;
      skew = any-bare (w.f 8) w.skew;
      limits = limits-bare (w.f 9) (w.f 10) w.limits;
      primary = any-bare (w.f 11) w.primary;
      secondary = any-bare (w.f 12) w.secondary;
      side = w.side;
    })

pub status-written : (k : Kind) (i : ℕ) (l : List ℕ) → Line (StatusLine i) l → Line (StatusLine i) (line_text k Status l)
unfolding is_number line_text
status-written k i l = fields-line k Status l refl (λ w.
    record {
      f = λ j. field_text (is_number Status j) (w.f j);
      fields = fields-written Status 5 w.f l (lit≤ tt) w.fields;
      names = record { index = count-bare 6 i (w.f 1) w.names.index; name = w.names.name; phase = w.names.phase; circuit = w.names.circuit };
      normal = w.normal;
    })

-- empty, or a real
empty-or-real : (f : List ℕ) → (f ≡ []) ⊎ AnyReal f → (bare f ≡ []) ⊎ AnyReal (bare f)
empty-or-real f (inl e) = inl (ap bare e)
empty-or-real f (inr w) = inr (any-bare f w)

pub frequency-written : (k : Kind) (l : List ℕ) → Line FrequencyLine l → Line FrequencyLine (line_text k Numbers l)
unfolding is_number
frequency-written k l = numbers-line k l (λ w.
    record {
      f = λ i. field_text (is_number Numbers i) (w.f i);
      fields = fields-written Numbers 1 w.f l (lit≤ tt) w.fields;
      frequency = empty-or-real (w.f 1) w.frequency;
    })

pub rates-written : (k : Kind) (n : ℕ) (l : List ℕ) → Line (RatesLine n) l → Line (RatesLine n) (line_text k Numbers l)
unfolding is_number
rates-written k n l = numbers-line k l (λ w.
    record {
      f = λ i. field_text (is_number Numbers i) (w.f i);
      fields = fields-written Numbers 1 w.f l (lit≤ tt) w.fields;
      rates = in-bare 3 0 8 n (w.f 1) w.rates;
    })

pub rate-written : (k : Kind) (sign : Sign) (before last : ℕ) (l : List ℕ) → Line (RateLine sign before last) l → Line (RateLine sign before last) (line_text k Numbers l)
unfolding is_number
rate-written k sign before last l = numbers-line k l (λ w.
    record {
      f = λ i. field_text (is_number Numbers i) (w.f i);
      fields = fields-written Numbers 2 w.f l (lit≤ tt) w.fields;
      rate = real-bare sign (w.f 1) w.rate;
      row = in-bare 10 1 1000000 last (w.f 2) w.row;
      rises = w.rises;
    })

pub multiplier-written : (k : Kind) (l : List ℕ) → Line MultiplierLine l → Line MultiplierLine (line_text k Numbers l)
unfolding is_number
multiplier-written k l = numbers-line k l (λ w.
    record {
      f = λ i. field_text (is_number Numbers i) (w.f i);
      fields = fields-written Numbers 1 w.f l (lit≤ tt) w.fields;
      multiplier = real-bare Above (w.f 1) w.multiplier;
    })

pub codes-written : (k : Kind) (z w : ℤ) (x : Bool) (l : List ℕ) → Line (CodesLine z w x) l → Line (CodesLine z w x) (line_text k Numbers l)
unfolding is_number
codes-written k z w x l = numbers-line k l (λ c.
    record {
      f = λ i. field_text (is_number Numbers i) (c.f i);
      fields = fields-written Numbers 2 c.f l (lit≤ tt) c.fields;
      time = code-bare z (c.f 1) c.time;
      place = local-bare w x (c.f 2) c.place;
    })

-- the kind's line in another kind: its word
kind-line : (e : Edition) (k : Kind) → has_kind e k ≡ true → Line (KindLine e k) (kind_name k)
unfolding kind_name
kind-line e Ascii h = record { bytes = refl; is = record { f = λ i. kind_name Ascii; fields = record { joined = refl; apart = λ i p q. refl }; kind = refl; has = (has-exactly e Ascii).0 h } }
kind-line e Binary h = record { bytes = refl; is = record { f = λ i. kind_name Binary; fields = record { joined = refl; apart = λ i p q. refl }; kind = refl; has = (has-exactly e Binary).0 h } }
kind-line e Binary32 h =
    record { bytes = refl; is = record { f = λ i. kind_name Binary32; fields = record { joined = refl; apart = λ i p q. refl }; kind = refl; has = (has-exactly e Binary32).0 h } }

pub kind-written : (e : Edition) (k : Kind) (l : List ℕ) → has_kind e k ≡ true → Line (KindLine e k) (line_text k Word l)
unfolding line_text
kind-written e k l = kind-line e k

-- how long the kind's line is, and its word
pub word-short : (k : Kind) (l : List ℕ) → length (line_text k Word l) ≤ 8
unfolding line_text
word-short k l = kind-short k

lowered_long : (f : List ℕ) → length (lowered f) ≡ length f
lowered_long [] = refl
lowered_long (b ∷ f) = ap suc (lowered_long f)

word-long : (k : Kind) → 5 ≤ length (kind_word k)
word-long Ascii = lit≤ tt
word-long Binary = lit≤ tt
word-long Binary32 = lit≤ tt

pub kind-long : (e : Edition) (k : Kind) (l : List ℕ) → KindLine e k l → 5 ≤ length l
kind-long e k l w =
    let e : l ≡ w.f 1 = w.fields.joined ∙ append-nil (w.f 1) in
    rw (e, ← lowered_long (w.f 1), w.kind) (word-long k)
