-- A field without its leading spaces is what it was: the same count, real, limit or code.
--     bare-fits                  it is no longer than the field
--     count-bare, in-bare, lettered-bare     counts
--     real-bare, any-bare, limits-bare       reals
--     local-bare, code-bare                  time codes
-- Assumes nothing.
use mathlib.Core.Path.{◌≡◌, refl, ap, ◌∙◌}
use mathlib.Core.Bool.{Bool, true, false}
use mathlib.Core.List.{List, [], ◌∷◌, ◌++◌, append_assoc}
use Prim.Native.Nat.{ℕ, ◌≤◌}
use Prim.Native.String.{String}
use native.Mathlib.Omega.{arith}
use lib.IntN.{ℤ}
use lib.ListN.{length}
use Rattle.ground.specs.Quoted.{quoted}
use Rattle.ground.proofs.Cases.{clash}
use Rattle.numerals.proofs.PlainLaws.{digits-no-space}
use Rattle.reals.specs.declared.Sign as real
use Rattle.paper.specs.Fields.{spaces, Sign, sign_text, none, Decimal, with_h, CountField, CountIn, Lettered, RealField, AnyReal, LimitField, Limits, CodeField, XField}
use Rattle.paper.specs.Lines.{LocalField}
use Rattle.exact.proofs.CountLaws.{digits-to, spaces-rest}
use Rattle.exact.proofs.WholeLaws.{digit_first, digits-first, sign-spaces}
use Rattle.exact.proofs.RealLaws.{decimal-first}
use Rattle.exact.proofs.CodeLaws.{hours-first}
use Rattle.rewrite_lines.specs.Lines.{bare}
use Rattle.rewrite_lines.proofs.FieldLaws.{bare-short}

pub bare-fits : (f : List ℕ) (most : ℕ) → length f ≤ most → length (bare f) ≤ most
bare-fits f most h = omega (arith, bare-short f)

digits-bare : (most v : ℕ) (f : List ℕ) (w : CountField most v f) → bare f ≡ w.digits
digits-bare most v f w = spaces-rest w.leading f w.digits w.text (digits-no-space w.digits (digits-to w.digits w.number.all))

pub count-bare : (most v : ℕ) (f : List ℕ) → CountField most v f → CountField most v (bare f)
count-bare most v f w =
    record {
      leading = 0;
      digits = w.digits;
      text = digits-bare most v f w;
      number = w.number;
      short = bare-fits f most w.short;
      worth = w.worth;
    }

pub in-bare : (most low high v : ℕ) (f : List ℕ) → CountIn most low high v f → CountIn most low high v (bare f)
in-bare most low high v f w = record { count = count-bare most v f w.count; least = w.least; greatest = w.greatest }

first_then : (a b : List ℕ) → digit_first a ≡ true → digit_first (a ++ b) ≡ true
first_then [] b h = clash (cc)
first_then (x ∷ a) b h = h

-- a letter after the digits
pub lettered-bare : (letter : String) (high v : ℕ) (f : List ℕ) → Lettered letter high v f → Lettered letter high v (bare f)
lettered-bare letter high v f w =
    let n = w.form.count in
    let d = n.digits in
    let text : f ≡ spaces n.leading ++ (d ++ quoted letter)
    = w.form.text ∙ ap (λ (x : List ℕ). x ++ quoted letter) n.text ∙ append_assoc (spaces n.leading) d (quoted letter) in
    record {
      form = record {
        number = d;
        text = spaces-rest n.leading f (d ++ quoted letter) text (sign-spaces none (d ++ quoted letter) (first_then d (quoted letter) (digits-first d n.number)));
        count = rw (digits-bare 6 v w.form.number n) at (count-bare 6 v w.form.number n);
      };
      greatest = w.greatest;
    }

-- a sign and a decimal after the spaces
decimal-bare : (n : ℕ) (g : Sign) (size f : List ℕ) → f ≡ spaces n ++ (sign_text g ++ size) → Decimal size → bare f ≡ sign_text g ++ size
decimal-bare n g size f e d = spaces-rest n f (sign_text g ++ size) e (sign-spaces g size (decimal-first size d))

pub real-bare : (r : real.Sign) (f : List ℕ) → RealField r f → RealField r (bare f)
real-bare r f w =
    record {
      leading = 0;
      sign = w.sign;
      size = w.size;
      text = decimal-bare w.leading w.sign w.size f w.text w.decimal;
      decimal = w.decimal;
      short = bare-fits f 32 w.short;
      worth = w.worth;
    }

pub any-bare : (f : List ℕ) → AnyReal f → AnyReal (bare f)
any-bare f (r, w) = (r, real-bare r f w)

limit-bare : (z : ℤ) (f : List ℕ) → LimitField z f → LimitField z (bare f)
limit-bare z f h =
    let w = h.form in
    record {
      form = record {
        leading = 0;
        sign = w.sign;
        size = w.size;
        text = decimal-bare w.leading w.sign w.size f w.text w.decimal;
        decimal = w.decimal;
        short = bare-fits f 13 w.short;
        scale = w.scale;
        power = w.power;
        worth = w.worth;
      };
      near = h.near;
    }

pub limits-bare : (low high : List ℕ) → Limits low high → Limits (bare low) (bare high)
limits-bare low high w =
    record {
      least = w.least;
      greatest = w.greatest;
      min = limit-bare w.least low w.min;
      max = limit-bare w.greatest high w.max;
      order = w.order;
    }

pub code-bare : (z : ℤ) (f : List ℕ) → CodeField z f → CodeField z (bare f)
code-bare z f h =
    let w = h.form in
    let d = w.hour ++ with_h w.minute in
    record {
      sign = h.sign;
      hours = h.hours;
      minutes = h.minutes;
      form = record {
        leading = 0;
        hour = w.hour;
        minute = w.minute;
        text = spaces-rest w.leading f (sign_text h.sign ++ d) w.text (sign-spaces h.sign d (hours-first w.hour (with_h w.minute) w.hour_digits));
        hour_digits = w.hour_digits;
        minute_digits = w.minute_digits;
        short = bare-fits f 6 w.short;
        hour_worth = w.hour_worth;
        minute_worth = w.minute_worth;
      };
      hours_in = h.hours_in;
      minutes_in = h.minutes_in;
      worth = h.worth;
    }

x-bare : (f : List ℕ) → XField f → XField (bare f)
x-bare f w = record { leading = 0; text = spaces-rest w.leading f (quoted "x") w.text refl; short = bare-fits f 6 w.short }

pub local-bare : (z : ℤ) (x : Bool) (f : List ℕ) → LocalField z x f → LocalField z x (bare f)
local-bare z false f w = code-bare z f w
local-bare z true f (w, e) = (x-bare f w, e)
