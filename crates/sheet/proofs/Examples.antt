-- The worked example, computed.
use Rattle.std.proofs.Common.{refl}
use Rattle.reading.specs.Formats.{number, after, taken, each}
use Rattle.reading.specs.Layout.{header_format, timer_format, process_format, signal_format, span_format, edge_format, term_format, name_format, sheet_format}
use Rattle.reading.specs.Opening.{opened, placed}
use Rattle.sheet.specs.Example.{gate, gate_opened, Opens, Refuses}
use Rattle.table.specs.Edges.{edge_fault}
use Rattle.table.specs.Examination.{first_at}
use Rattle.table.specs.Expressions.{formed, sound}
use Rattle.table.specs.Gate.{gate_table}

pub opens : Opens
unfolding number after taken each header_format timer_format process_format signal_format span_format edge_format term_format name_format sheet_format opened placed gate gate_opened gate_table edge_fault first_at formed sound
opens = record { whole = refl; less = refl; more = refl; none = refl }

pub refuses : Refuses
unfolding number after taken each header_format timer_format process_format signal_format span_format edge_format term_format name_format sheet_format opened placed gate gate_opened edge_fault first_at formed sound
refuses = record {
  cut = refl;
  count_before_cut = refl;
  version = refl;
  processes = refl;
  first_location = refl;
  class = refl;
  destination = refl;
  timer_off = refl;
  unused = refl;
  fill = refl;
  length = refl;
  character = refl;
  missing = refl;
  unfit = refl;
  expression = refl;
  malformed = refl;
}
