-- The text that is written is the number's.
use Rattle.std.proofs.Common.{◌≡◌, refl, length}
use Rattle.ground.specs.Said.{says}
use Rattle.reasons.specs.Reasons.{reason_of, reason_said, text_said}
use Rattle.reasons.proofs.put_reason.Goals as goal
use Rattle.reasons.proofs.put_reason.Goals.{in-1, in-2, in-3, in-4, in-5, in-6, in-7, in-8, in-9, in-10, in-11, in-12, in-13, in-14, in-15, in-16, in-17}

pub returns : goal.returns
unfolding reason_of reason_said
returns c =
    let text : reason_of c.args.number ≡ says c.match-number.text.now
    = elim c.match-number.branch [
      | in-1 w ↦ rw (w.in-1.is, w.text-is) refl
      | in-2 w ↦ rw (w.in-2.is, w.text-is) refl
      | in-3 w ↦ rw (w.in-3.is, w.text-is) refl
      | in-4 w ↦ rw (w.in-4.is, w.text-is) refl
      | in-5 w ↦ rw (w.in-5.is, w.text-is) refl
      | in-6 w ↦ rw (w.in-6.is, w.text-is) refl
      | in-7 w ↦ rw (w.in-7.is, w.text-is) refl
      | in-8 w ↦ rw (w.in-8.is, w.text-is) refl
      | in-9 w ↦ rw (w.in-9.is, w.text-is) refl
      | in-10 w ↦ rw (w.in-10.is, w.text-is) refl
      | in-11 w ↦ rw (w.in-11.is, w.text-is) refl
      | in-12 w ↦ rw (w.in-12.is, w.text-is) refl
      | in-13 w ↦ rw (w.in-13.is, w.text-is) refl
      | in-14 w ↦ rw (w.in-14.is, w.text-is) refl
      | in-15 w ↦ rw (w.in-15.is, w.text-is) refl
      | in-16 w ↦ rw (w.in-16.is, w.text-is) refl
      | in-17 w ↦ rw (w.in-17.is, w.text-is) refl
    ] in
    let said : reason_said c.args.number (length c.args.out.now) ≡ text_said c.match-number.text.now (length c.args.out.now)
    = rw text refl in
    rw said c.say_text.ensures
