-- The formats of the records read exactly what they write.
use Rattle.std.proofs.Common.{◌≡◌, ℕ, ◌+◌, ◌-◌, ◌^◌, ◌<◌, ◌≤◌, Bool, zero, suc, true, false, cond, not, eqb, leb, List, length, get_or, sym, refl, ap, ◌∙◌, arith}
use Rattle.std.proofs.lemmas.Bool.{eqb-true, eqb-false, eq-eqb, ne_eqb, leb-false, lt-leb, not-false, both_ways, false_from_ne_true}
use Rattle.std.proofs.lemmas.List.Folds.{list_any_at, list_any_none}
use Rattle.std.proofs.lemmas.Bool.Decides.{nat_tests}
use Rattle.std.specs.Int.{w16}
use Rattle.std.specs.Int.RustNames.{FitsSigned}
use Rattle.std.specs.List.{All, list_any}
use Rattle.reading.specs.Formats.{field, plain}
use Rattle.reading.specs.Layout.{header_format, timer_format, process_format, destination, signal_format, span_format, edge_format, term_format, name_format}
use Rattle.reading.specs.Spelling.{FitsProcess, FitsTerm, IsName}
use Rattle.reading.specs.declared.records.Counts.{Counts}
use Rattle.reading.proofs.Exact.{Exact, within, exact-like, exact-field, exact-bits, exact-plain, exact-signed, exact-done, exact-then, exact-many}
use Rattle.table.specs.Examination.{too_long, bad_process, bad_signal}
use Rattle.table.specs.Lists.{Proc}
use Rattle.table.specs.Records.{timer_of, timer_number, timer_ticks}
use Rattle.table.specs.declared.record.Signal.{Signal}
use Rattle.table.specs.declared.record.Timer.{Timer}
use Rattle.table.specs.declared.record.Timer.TheVariants.{Off, On}

pub record SheetCounts (c : Counts) : Type 0 where
  pub some : 1 ≤ c.processes
  pub processes : c.processes ≤ 8
  pub signals : c.signals ≤ 64
  pub edges : c.edges ≤ 2048
  pub terms : c.terms ≤ 4096

pub exact-header : Exact within header_format SheetCounts
unfolding header_format
exact-header =
    exact-like SheetCounts
    (λ c g. record { some = g.1.0.0; processes = g.1.0.1; signals = g.1.1.0.1; edges = g.1.1.1.0.1; terms = g.1.1.1.1.0.1 })
    (λ c g. ((omega arith, omega arith), ((g.some, g.processes), ((omega arith, g.signals), ((omega arith, g.edges), ((omega arith, g.terms), refl))))))
    (exact-then (exact-field 8 1 1 2) (λ _.
    exact-then (exact-field 4 1 8 3) (λ processes.
    exact-then (exact-field 7 0 64 3) (λ signals.
    exact-then (exact-field 12 0 2048 3) (λ edges.
    exact-then (exact-field 13 0 4096 3) (λ terms.
    exact-done (record { processes = processes; signals = signals; edges = edges; terms = terms }))
    (λ n c f g. ap (λ c. c.terms) g))
    (λ n c f g. ap (λ c. c.edges) g.1))
    (λ n c f g. ap (λ c. c.signals) g.1.1))
    (λ n c f g. ap (λ c. c.processes) g.1.1.1))
    (λ n c f g. omega (arith, f.0, f.1)))

-- timers

exact-ticks : (on : ℕ) → Exact within (cond (eqb on 0) (field 15 0 0 4) (plain 15)) (λ n. (n < 2 ^ 15) × (on ≡ 0 → n ≡ 0))
exact-ticks on = by (eqb on 0) refl
  where
    by : (b : Bool) → eqb on 0 ≡ b → Exact within (cond b (field 15 0 0 4) (plain 15)) (λ n. (n < 2 ^ 15) × (on ≡ 0 → n ≡ 0))
    by true e =
        let z = eqb-true on 0 e in
        exact-like (λ n. (n < 2 ^ 15) × (on ≡ 0 → n ≡ 0)) (λ n f. let l = f.1 in (omega arith, λ _. omega arith)) (λ n g. let l = g.1 z in (omega arith, omega arith)) (exact-field 15 0 0 4)
    by false e =
        let z = eqb-false on 0 e in
        exact-like (λ n. (n < 2 ^ 15) × (on ≡ 0 → n ≡ 0)) (λ n f. (f, λ h. absurd (z h))) (λ n g. g.0) (exact-plain 15 (omega arith))

timer_ticks-of : (on n : ℕ) → (on ≡ 0 → n ≡ 0) → timer_ticks (timer_of on n) ≡ n
timer_ticks-of on n h = by (eqb on 0) refl
  where
    by : (b : Bool) → eqb on 0 ≡ b → timer_ticks (cond b Off (On n)) ≡ n
    by true e = sym (h (eqb-true on 0 e))
    by false e = refl

timer_number-of : (on n : ℕ) → on < 2 → timer_number (timer_of on n) ≡ on
timer_number-of on n h = by (eqb on 0) refl
  where
    by : (b : Bool) → eqb on 0 ≡ b → timer_number (cond b Off (On n)) ≡ on
    by true e = sym (eqb-true on 0 e)
    by false e = let z = eqb-false on 0 e in omega arith

abbrev ReadTimer : Timer → Type 0
ReadTimer t = (timer_number t < 2 ^ 1) × (((timer_ticks t < 2 ^ 15) × (timer_number t ≡ 0 → timer_ticks t ≡ 0)) × (t ≡ timer_of (timer_number t) (timer_ticks t)))

not_long : (t : Timer) → ReadTimer t → too_long t ≡ false
not_long Off h = refl
not_long (On n) h = let l = h.1.0.0 in grind (arith, nat_tests)

long_not : (t : Timer) → too_long t ≡ false → ReadTimer t
long_not Off e = (omega arith, ((omega arith, λ _. refl), refl))
long_not (On n) e = (omega arith, ((grind (arith, nat_tests), λ h. absurd (omega arith)), refl))

pub exact-timer : Exact within timer_format (λ t. too_long t ≡ false)
unfolding timer_format
exact-timer =
    exact-like (λ t. too_long t ≡ false) not_long long_not
    (exact-then (exact-plain 1 (omega arith)) (λ on.
    exact-then (exact-ticks on) (λ n.
    exact-done (timer_of on n))
    (λ n t f g. ap timer_ticks g ∙ timer_ticks-of on n f.1))
    (λ on t f g. ap timer_number g.1 ∙ timer_number-of on (timer_ticks t) f))

-- the other records

pub exact-span : Exact within span_format (λ _. Unit {0})
unfolding span_format
exact-span =
    exact-like (λ _. Unit {0}) (λ s g. tt) (λ s g. (tt, (tt, refl)))
    (exact-then (exact-bits 12 (omega arith)) (λ start.
    exact-then (exact-bits 5 (omega arith)) (λ count.
    exact-done (record { start = start; count = count }))
    (λ n s f g. ap (λ s. s.count) g))
    (λ n s f g. ap (λ s. s.start) g.1))

pub exact-edge : Exact within edge_format (λ _. Unit {0})
unfolding edge_format
exact-edge =
    exact-like (λ _. Unit {0}) (λ e g. tt) (λ e g. (tt, (tt, (tt, (tt, (tt, (tt, (tt, (tt, (tt, refl))))))))))
    (exact-then (exact-bits 3 (omega arith)) (λ process.
    exact-then (exact-bits 4 (omega arith)) (λ from.
    exact-then (exact-bits 4 (omega arith)) (λ to.
    exact-then (exact-bits 3 (omega arith)) (λ kind.
    exact-then (exact-bits 6 (omega arith)) (λ first.
    exact-then (exact-bits 4 (omega arith)) (λ second.
    exact-then (exact-bits 2 (omega arith)) (λ mode.
    exact-then exact-span (λ guard.
    exact-then exact-span (λ value.
    exact-done (record {
      process = process;
      from = from;
      to = to;
      kind = kind;
      first = first;
      second = second;
      mode = mode;
      guard = guard;
      value = value;
    }))
    (λ n e f g. ap (λ e. e.value) g))
    (λ n e f g. ap (λ e. e.guard) g.1))
    (λ n e f g. ap (λ e. e.mode) g.1.1))
    (λ n e f g. ap (λ e. e.second) g.1.1.1))
    (λ n e f g. ap (λ e. e.first) g.1.1.1.1))
    (λ n e f g. ap (λ e. e.kind) g.1.1.1.1.1))
    (λ n e f g. ap (λ e. e.to) g.1.1.1.1.1.1))
    (λ n e f g. ap (λ e. e.from) g.1.1.1.1.1.1.1))
    (λ n e f g. ap (λ e. e.process) g.1.1.1.1.1.1.1.1))

pub exact-term : Exact within term_format FitsTerm
unfolding term_format
exact-term =
    exact-like FitsTerm
    (λ t g. let l = g.0 in record { operation = omega arith; argument = g.1.0 })
    (λ t g. let l = g.operation in (omega arith, (g.argument, refl)))
    (exact-then (exact-plain 4 (omega arith)) (λ operation.
    exact-then exact-signed (λ argument.
    exact-done (record { operation = operation; argument = argument }))
    (λ z t f g. ap (λ t. t.argument) g))
    (λ n t f g. ap (λ t. t.operation) g.1))

pub exact-name : Exact within name_format IsName
unfolding name_format
exact-name =
    exact-like IsName
    (λ t g. record { some = g.0.0; short = g.0.1; characters = g.1.1 })
    (λ t g. ((g.some, g.short), (refl, g.characters)))
    (exact-then (exact-field 8 1 15 6) (λ n.
    exact-many (exact-field 8 33 126 6) n)
    (λ n t f g. g.0))

-- a process

none-long : (ts : List Timer) → list_any too_long ts ≡ false → All (λ t. too_long t ≡ false) ts
none-long ts h = λ k d l. false_from_ne_true (too_long (get_or ts k d)) (λ e. both_ways (list_any too_long ts) h (list_any_at too_long ts k d l e))

pub record SheetProcess (p : Proc) : Type 0 where
  pub limits : bad_process p ≡ false
  pub fits : FitsProcess p

abbrev ReadProcess : Proc → Type 0
ReadProcess p =
    (p.locations - 1 < 2 ^ 4) × (((0 ≤ p.variables) × (p.variables ≤ 8)) × (((0 ≤ p.timers) × (p.timers ≤ 8)) × (((0 ≤ p.first) × (p.first ≤ p.locations - 1))
    × (((length p.values ≡ p.variables) × All (FitsSigned w16) p.values) × (((length p.settings ≡ p.timers) × All (λ t. too_long t ≡ false) p.settings)
    × (p ≡ record { locations = p.locations - 1 + 1; first = p.first; variables = p.variables; timers = p.timers; values = p.values; settings = p.settings }))))))

process-read : (p : Proc) → ReadProcess p → SheetProcess p
process-read p g =
    let some : p.locations ≡ p.locations - 1 + 1 = ap (λ r. r.locations) g.1.1.1.1.1.1 in
    record {
      limits = (let none = list_any_none too_long p.settings g.1.1.1.1.1.0.1 in grind (arith, nat_tests));
      fits = record { values = g.1.1.1.1.0.0; settings = g.1.1.1.1.1.0.0; words = g.1.1.1.1.0.1 };
    }

read-process : (p : Proc) → SheetProcess p → ReadProcess p
read-process p g =
    let b = g.limits in (
      grind (arith, nat_tests),
      (
        (omega arith, grind (arith, nat_tests)),
        (
          (omega arith, grind (arith, nat_tests)),
          (
            (omega arith, grind (arith, nat_tests)),
            (
              (g.fits.values, g.fits.words),
              (
                (g.fits.settings, none-long p.settings (grind (arith, nat_tests))),
                ap (λ n. record { locations = n; first = p.first; variables = p.variables; timers = p.timers; values = p.values; settings = p.settings }) (let some : 1 ≤ p.locations = grind (arith, nat_tests) in omega arith),
              ),
            ),
          ),
        ),
      ),
    )

pub exact-process : Exact within process_format SheetProcess
unfolding process_format
exact-process =
    exact-like SheetProcess process-read read-process
    (exact-then (exact-plain 4 (omega arith)) (λ last.
    exact-then (exact-field 4 0 8 3) (λ variables.
    exact-then (exact-field 4 0 8 3) (λ timers.
    exact-then (exact-field 4 0 last 3) (λ first.
    exact-then (exact-many exact-signed variables) (λ values.
    exact-then (exact-many exact-timer timers) (λ settings.
    exact-done (record { locations = last + 1; first = first; variables = variables; timers = timers; values = values; settings = settings }))
    (λ n p f g. ap (λ p. p.settings) g))
    (λ n p f g. ap (λ p. p.values) g.1))
    (λ n p f g. ap (λ p. p.first) g.1.1))
    (λ n p f g. ap (λ p. p.timers) g.1.1.1))
    (λ n p f g. ap (λ p. p.variables) g.1.1.1.1))
    (λ n p f g. let e : p.locations ≡ n + 1 = ap (λ p. p.locations) g.1.1.1.1.1 in omega arith))

-- a signal

pub record SheetSignal (processes : ℕ) (s : Signal) : Type 0 where
  pub class : s.class ≤ 3
  pub destination : s.destination ≤ cond (leb s.class 1) (processes - 1) 0

exact-destination : (processes class : ℕ) → Exact within (destination processes class) (λ d. d ≤ cond (leb class 1) (processes - 1) 0)
exact-destination processes class = by (leb class 1)
  where
    by : (b : Bool) → Exact within (cond b (field 3 0 (processes - 1) 3) (field 3 0 0 4)) (λ d. d ≤ cond b (processes - 1) 0)
    by true = exact-like (λ d. d ≤ processes - 1) (λ d f. f.1) (λ d g. (omega arith, g)) (exact-field 3 0 (processes - 1) 3)
    by false = exact-like (λ d. d ≤ 0) (λ d f. f.1) (λ d g. (omega arith, g)) (exact-field 3 0 0 4)

pub exact-signal : (processes : ℕ) → Exact within (signal_format processes) (SheetSignal processes)
unfolding signal_format
exact-signal processes =
    exact-like (SheetSignal processes)
    (λ s g. record { class = g.0.1; destination = g.1.0 })
    (λ s g. ((omega arith, g.class), (g.destination, refl)))
    (exact-then (exact-field 3 0 3 3) (λ class.
    exact-then (exact-destination processes class) (λ destination.
    exact-done (record { class = class; destination = destination }))
    (λ n s f g. ap (λ s. s.destination) g))
    (λ n s f g. ap (λ s. s.class) g.1))

class-unknown : (n c d : ℕ) → 4 ≤ c → bad_signal n (record { class = c; destination = d }) ≡ true
class-unknown n c d h = rw (ne_eqb c 0 (omega arith), ne_eqb c 1 (omega arith), ne_eqb c 2 (omega arith), ne_eqb c 3 (omega arith))

module _ (processes : ℕ) (some : 1 ≤ processes) where
  signal-class : (c d : ℕ) → c ≤ 3 → d ≤ cond (leb c 1) (processes - 1) 0 → bad_signal processes (record { class = c; destination = d }) ≡ false
  signal-class zero d h l = lt-leb processes d (omega arith)
  signal-class (suc zero) d h l = lt-leb processes d (omega arith)
  signal-class (suc (suc zero)) d h l = ap not (eq-eqb d 0 (omega arith))
  signal-class (suc (suc (suc zero))) d h l = ap not (eq-eqb d 0 (omega arith))
  signal-class (suc (suc (suc (suc c)))) d h l = absurd (omega arith)

  pub good-signal : (s : Signal) → SheetSignal processes s → bad_signal processes s ≡ false
  good-signal s h = signal-class s.class s.destination h.class h.destination

  class-signal : (c d : ℕ) → bad_signal processes (record { class = c; destination = d }) ≡ false → (c ≤ 3) × (d ≤ cond (leb c 1) (processes - 1) 0)
  class-signal zero d e = let l = leb-false processes d e in (omega arith, omega arith)
  class-signal (suc zero) d e = let l = leb-false processes d e in (omega arith, omega arith)
  class-signal (suc (suc zero)) d e = let l = eqb-true d 0 (not-false (eqb d 0) e) in (omega arith, omega arith)
  class-signal (suc (suc (suc zero))) d e = let l = eqb-true d 0 (not-false (eqb d 0) e) in (omega arith, omega arith)
  class-signal (suc (suc (suc (suc c)))) d e = absurd (both_ways (bad_signal processes (record { class = suc (suc (suc (suc c))); destination = d })) e (class-unknown processes (suc (suc (suc (suc c)))) d (omega arith)))

  pub signal-good : (s : Signal) → bad_signal processes s ≡ false → SheetSignal processes s
  signal-good s e = let r = class-signal s.class s.destination e in record { class = r.0; destination = r.1 }
