-- Refusals and answers as numbers of 64 bits.
--   layer_code l     the layers in their order
--   place_code p     one number; a process and a location have a bit of their own, and eight bits each
--   inside_code o    the bit of the sheet's record and one more, or 0
--   packed r         a refusal: the top bit, 8 bits for the number, 3 for the layer, 26 for the place, 26 for the sheet's bit. What a
--                    field cannot hold is written as the largest that it can
--   failed           what is answered when there is no memory: all ones. No refusal is packed so
--   judgement o      a refusal, or 0 where there is none
--   answer_code r    what a step answers: 0, or the message that leaves, or the refusal
--   number_code r    what a call on a book answers: its number, or the refusal
use Rattle.std.specs.Prelude.{ℕ, ◌+◌, ◌*◌, min, Some, None, Ok, Err, Option, Result}
use Rattle.std.specs.Int.{w16, cast_unsigned}
use Rattle.refusal.specs.declared.fault.Layer.{Layer}
use Rattle.refusal.specs.declared.fault.Layer.TheVariants.{Sheet, Edge, Table, Test, Book, State, Output}
use Rattle.refusal.specs.declared.fault.Place.{Place}
use Rattle.refusal.specs.declared.fault.Place.TheVariants.{At, Pair}
use Rattle.refusal.specs.declared.fault.Refusal.{Refusal}
use Rattle.rules.specs.declared.step.Message.{Message}

abbrev pub layer_code : Layer → ℕ
layer_code Sheet = 0
layer_code Edge = 1
layer_code Table = 2
layer_code Test = 3
layer_code Book = 4
layer_code State = 5
layer_code Output = 6

abbrev pub place_code : Place → ℕ
place_code (At n) = min n 33554431
place_code (Pair p l) = 33554432 + 256 * min p 255 + min l 255

abbrev pub inside_code : Option ℕ → ℕ
inside_code None = 0
inside_code (Some b) = 1 + min b 67108862

abbrev pub packed : Refusal → ℕ
packed r = 9223372036854775808 + 36028797018963968 * r.number + 4503599627370496 * layer_code r.layer + 67108864 * place_code r.place + inside_code r.sheet

abbrev pub failed : ℕ
failed = 18446744073709551615

abbrev pub judgement : Option Refusal → ℕ
judgement None = 0
judgement (Some r) = packed r

abbrev pub message_code : Option Message → ℕ
message_code None = 0
message_code (Some m) = 16777216 + 65536 * m.signal + cast_unsigned w16 m.value

abbrev pub answer_code : Result (Option Message) Refusal → ℕ
answer_code (Ok m) = message_code m
answer_code (Err r) = packed r

abbrev pub number_code : Result ℕ Refusal → ℕ
number_code (Ok n) = n
number_code (Err r) = packed r
