-- The closed table of a table that may be written may be written too, with the same names.
use Rattle.std.proofs.Common.{◌≡◌, ◌<◌, Bool, true, false, cond, [], ◌∷◌, length, None, sym, ◌∙◌, subst, arith, length-append}
use Rattle.std.proofs.lemmas.List.{get_or_default}
use Rattle.std.specs.List.{All}
use Rattle.marks.specs.Instances.{process_at}
use Rattle.marks.specs.Rules.{Marking}
use Rattle.reading.specs.Layout.{Contents}
use Rattle.reading.specs.Spelling.{FitsProcess, FitsTerm, IsWritable}
use Rattle.rules.proofs.Closed.{closed-length, process-closed}
use Rattle.rules.proofs.Examined.{closed-passes, signals-length, terms-same}
use Rattle.rules.proofs.Lists.{length-padded}
use Rattle.rules.specs.Closing.{chaotic, closed, test_refused, with_chaos}
use Rattle.rules.specs.States.{padded}
use Rattle.table.proofs.Passing.{none-parts}
use Rattle.table.specs.Edges.{blank}
use Rattle.table.specs.Examination.{edges_refused, examined, limits_refused, locations_refused}
use Rattle.table.specs.Lists.{Proc}
use Rattle.table.specs.declared.record.Timer.TheVariants.{Off, On}
use Rattle.std.specs.Option.{option_or}

fits-closed : (p : Proc) (b : Bool) → FitsProcess p → FitsProcess (cond b (with_chaos p) p)
fits-closed p true f = record {
  values = f.values;
  settings = omega (arith, length-append (padded p.timers Off p.settings) (On 0 ∷ []), length-padded p.timers Off p.settings);
  words = f.words;
}
fits-closed p false f = f

module _ (c : Contents) (w : IsWritable c) (M : Marking) (tested : test_refused c.lists M ≡ None) where
  passed : (limits_refused (closed c.lists M) ≡ None) × (edges_refused (closed c.lists M) ≡ None)
  unfolding examined
  passed =
      let C = closed c.lists M in
      let a = none-parts (limits_refused C) (option_or (edges_refused C) (locations_refused C)) (closed-passes c.lists M tested) in
      (a.0, (none-parts (edges_refused C) (locations_refused C) a.1).0)

  processes : All FitsProcess (closed c.lists M).processes
  processes k d l =
      let h : k < length c.lists.processes = subst (λ n. k < n) (closed-length c.lists M) l in
      subst FitsProcess (sym (get_or_default (closed c.lists M).processes k d blank l ∙ process-closed c.lists M k h))
      (fits-closed (process_at c.lists k) (chaotic c.lists k) (w.records.processes k blank h))

  pub closed-writable : IsWritable (record { lists = closed c.lists M; names = c.names })
  closed-writable = record {
    some = omega (arith, w.some, closed-length c.lists M);
    limits = passed.0;
    edges = passed.1;
    records = record { processes = processes; terms = subst (All FitsTerm) (terms-same c.lists M tested) w.records.terms };
    named = omega (arith, w.named, closed-length c.lists M, signals-length c.lists M tested);
    names = w.names;
  }
