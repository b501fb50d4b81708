-- A sum over the records of edges, by which tables are compared without writing them.
--   front_of e, back_of e   the fields of e in two numbers below 2^56: those of one byte, and the two parts of the term list
--   span_of s       a part of the term list
--   mixed h w       the sum h with the number w taken in; the modulus is prime
--   joined h o      with an edge taken in, if there is one
--   sum_to es n     the sum over the first n of the edges es
--   checksum es     over all of them
use Rattle.std.specs.Prelude.{ℕ, zero, suc, ◌+◌, ◌*◌, ◌%◌, List, length, Some, None, Option}
use Rattle.std.specs.List.{slice_get}
use Rattle.table.specs.declared.record.Edge.{Edge}
use Rattle.table.specs.declared.record.Span.{Span}

abbrev pub front_of : Edge → ℕ
front_of e =
    281474976710656 * e.process + 1099511627776 * e.from + 4294967296 * e.to + 16777216 * e.kind + 65536 * e.first + 256 * e.second + e.mode

abbrev pub span_of : Span → ℕ
span_of s = 256 * s.start + s.count

abbrev pub back_of : Edge → ℕ
back_of e = 16777216 * span_of e.guard + span_of e.value

unfoldable pub mixed : ℕ → ℕ → ℕ
mixed h w = 31 * (h + w) % 144115188075855859

abbrev pub joined : ℕ → Option Edge → ℕ
joined h None = h
joined h (Some e) = mixed (mixed h (front_of e)) (back_of e)

unfoldable pub sum_to : List Edge → ℕ → ℕ
sum_to es zero = 0
sum_to es (suc n) = joined (sum_to es n) (slice_get es n)

abbrev pub checksum : List Edge → ℕ
checksum es = sum_to es (length es)
