-- The message is cut where the mark stands, if it does.
use Rattle.std.proofs.Common.{Some, None, inl, inr, refl}
use Rattle.std.proofs.lemmas.Str.Pattern.{split_text_parts}
use Rattle.list.specs.Inner.{number_mark}
use Rattle.list.proofs.words.Goals as goal

pub returns-in-Some : goal.returns-in-Some
returns-in-Some c = inl (c.in-Some.field-0-1.now, split_text_parts number_mark c.args.message.now (Some (c.in-Some.words, c.in-Some.field-0-1)) c.in-Some.ensures.cases)

pub returns-in-None : goal.returns-in-None
returns-in-None c = inr (refl, split_text_parts number_mark c.args.message.now None c.in-None.ensures.cases)
