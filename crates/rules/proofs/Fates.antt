-- What closing makes of one edge: its kind, the tests that it passes, and that it is as good as before.
use Rattle.std.proofs.Common.{◌≡◌, ℕ, ◌<◌, ◌≤◌, Bool, true, false, cond, not, ◌&&◌, ◌||◌, eqb, ltb, List, [], ◌∷◌, None, sym, refl, ap, ◌∙◌, ⊎_elim, arith}
use Rattle.std.proofs.lemmas.Bool.{both_ways, and_parts, and_from, or_parts, or_from, not-false, cases_eq}
use Rattle.std.proofs.lemmas.Bool.Decides.{nat_tests}
use Rattle.rules.proofs.Lists.{first-none, none_first}
use Rattle.rules.specs.Closing.{Fate, stays, waits, skipped, emptied, fate_as, kind_under, first_under, second_under, value_under, no_span}
use Rattle.rules.specs.States.{is_inbound, is_internal, is_outbound, is_input, watches}
use Rattle.table.specs.Edges.{missing_in, unfit_for, malformed, numbers_bad, guard_bad, value_bad, guardable, empty, edge_fault, missing, unfit, untrue}
use Rattle.table.specs.Examination.{acting}
use Rattle.table.specs.Expressions.{sound}
use Rattle.table.specs.Lists.{Lists, Proc}
use Rattle.table.specs.Records.{kind_of, class_of, mode_of}
use Rattle.table.specs.declared.record.Class.{Class}
use Rattle.table.specs.declared.record.Class.TheVariants.{Internal, Inbound, Outbound, Absent}
use Rattle.table.specs.declared.record.Edge.{Edge}
use Rattle.table.specs.declared.record.Kind.{Kind}
use Rattle.table.specs.declared.record.Kind.TheVariants.{Input, Output, Assignment, Set, Reset, Timeout, Rearm, Skip, Unknown}
use Rattle.table.specs.declared.record.Mode.{Mode}
use Rattle.table.specs.declared.record.Signal.{Signal}
use Rattle.table.specs.declared.record.Span.{Span}
use Rattle.table.specs.declared.record.Term.{Term}

-- the kind that an edge of kind k has under a fate
abbrev pub kind_with : Fate → Kind → Kind
kind_with stays k = k
kind_with waits k = Rearm
kind_with skipped k = Skip
kind_with emptied k = k

pub kind-under : (f : Fate) (n : ℕ) → kind_of (kind_under f n) ≡ kind_with f (kind_of n)
kind-under stays n = refl
kind-under waits n = refl
kind-under skipped n = refl
kind-under emptied n = refl

abbrev pub kind_then : Kind → Bool → Bool → Bool → Kind
kind_then k i o m = kind_with (fate_as k i o m) k

pub acting-then : (k : Kind) (i o m : Bool) → acting (kind_then k i o m) ≡ acting k
acting-then Input true o m = refl
acting-then Input false o m = refl
acting-then Output i true m = refl
acting-then Output i false true = refl
acting-then Output i false false = refl
acting-then Assignment i o true = refl
acting-then Assignment i o false = refl
acting-then Set i o true = refl
acting-then Set i o false = refl
acting-then Reset i o m = refl
acting-then Timeout i o m = refl
acting-then Rearm i o m = refl
acting-then Skip i o m = refl
acting-then Unknown i o m = refl

-- an input stays one, unless it waits for chaos
pub takes-then : (k : Kind) (i o m : Bool) (c n s : ℕ) → (i ≡ true → eqb n s ≡ false) → (is_input (kind_then k i o m) && eqb (first_under (fate_as k i o m) c n) s) ≡ (is_input k && eqb n s)
takes-then Input true o m c n s h = sym (h refl)
takes-then Input false o m c n s h = refl
takes-then Output i true m c n s h = refl
takes-then Output i false true c n s h = refl
takes-then Output i false false c n s h = refl
takes-then Assignment i o true c n s h = refl
takes-then Assignment i o false c n s h = refl
takes-then Set i o true c n s h = refl
takes-then Set i o false c n s h = refl
takes-then Reset i o m c n s h = refl
takes-then Timeout i o m c n s h = refl
takes-then Rearm i o m c n s h = refl
takes-then Skip i o m c n s h = refl
takes-then Unknown i o m c n s h = refl

-- what handles a timer other than the chaos timer does so still
pub handles-then : (k : Kind) (i o m : Bool) (c n t : ℕ) → eqb c t ≡ false → (watches (kind_then k i o m) && eqb (first_under (fate_as k i o m) c n) t) ≡ (watches k && eqb n t)
handles-then Input true o m c n t h = h
handles-then Input false o m c n t h = refl
handles-then Output i true m c n t h = refl
handles-then Output i false true c n t h = refl
handles-then Output i false false c n t h = refl
handles-then Assignment i o true c n t h = refl
handles-then Assignment i o false c n t h = refl
handles-then Set i o true c n t h = refl
handles-then Set i o false c n t h = refl
handles-then Reset i o m c n t h = refl
handles-then Timeout i o m c n t h = refl
handles-then Rearm i o m c n t h = refl
handles-then Skip i o m c n t h = refl
handles-then Unknown i o m c n t h = refl

-- what the two numbers of an edge name is there
abbrev pub Names : ℕ → Proc → Kind → ℕ → ℕ → Type 0
Names s p Input n m = (n < s) × ((m ≡ 15 → ⊥) → m < p.variables)
Names s p Output n m = n < s
Names s p Assignment n m = n < p.variables
Names s p Set n m = n < p.timers
Names s p Reset n m = n < p.timers
Names s p Timeout n m = n < p.timers
Names s p Rearm n m = n < p.timers
Names s p Skip n m = Unit {0}
Names s p Unknown n m = Unit {0}

pub record There (s : ℕ) (p : Proc) (k : Kind) (e : Edge) : Type 0 where
  pub from : e.from < p.locations
  pub to : e.to < p.locations
  pub names : Names s p k e.first e.second

pub there-is : (s : ℕ) (p : Proc) (e : Edge) (k : Kind) → kind_of e.kind ≡ k → missing_in s p e ≡ false → There s p k e
there-is s p e k q h = record { from = grind (arith, nat_tests); to = grind (arith, nat_tests); names = by k q h }
  where
    by : (k : Kind) → kind_of e.kind ≡ k → missing_in s p e ≡ false → Names s p k e.first e.second
    by Input q h = let j = rw q at h in (grind (arith, nat_tests), λ ne. grind (arith, nat_tests))
    by Output q h = let j = rw q at h in grind (arith, nat_tests)
    by Assignment q h = let j = rw q at h in grind (arith, nat_tests)
    by Set q h = let j = rw q at h in grind (arith, nat_tests)
    by Reset q h = let j = rw q at h in grind (arith, nat_tests)
    by Timeout q h = let j = rw q at h in grind (arith, nat_tests)
    by Rearm q h = let j = rw q at h in grind (arith, nat_tests)
    by Skip q h = tt
    by Unknown q h = tt

pub is-there : (s : ℕ) (p : Proc) (e : Edge) (k : Kind) → kind_of e.kind ≡ k → There s p k e → missing_in s p e ≡ false
is-there s p e Input q h =
    let a = h.from in let b = h.to in let c = h.names.0 in let d = h.names.1 in
    ⊎_elim (λ z. rw q (grind (arith, nat_tests))) (λ z. let v = d z in rw q (grind (arith, nat_tests))) (cases_eq e.second 15)
is-there s p e Output q h = let a = h.from in let b = h.to in let c = h.names in rw q (grind (arith, nat_tests))
is-there s p e Assignment q h = let a = h.from in let b = h.to in let c = h.names in rw q (grind (arith, nat_tests))
is-there s p e Set q h = let a = h.from in let b = h.to in let c = h.names in rw q (grind (arith, nat_tests))
is-there s p e Reset q h = let a = h.from in let b = h.to in let c = h.names in rw q (grind (arith, nat_tests))
is-there s p e Timeout q h = let a = h.from in let b = h.to in let c = h.names in rw q (grind (arith, nat_tests))
is-there s p e Rearm q h = let a = h.from in let b = h.to in let c = h.names in rw q (grind (arith, nat_tests))
is-there s p e Skip q h = let a = h.from in let b = h.to in rw q (grind (arith, nat_tests))
is-there s p e Unknown q h = let a = h.from in let b = h.to in rw q (grind (arith, nat_tests))

-- in the closed process r every timer of p is there, and one more where the edge waits for it
pub names-then : (k : Kind) (i o m : Bool) (s : ℕ) (p r : Proc) (a b : ℕ) → r.variables ≡ p.variables → p.timers ≤ r.timers → (k ≡ Input → i ≡ true → p.timers < r.timers) → Names s p k a b → Names s r (kind_then k i o m) (first_under (fate_as k i o m) p.timers a) (second_under (fate_as k i o m) b)
names-then Input true o m s p r a b v t c h = c refl refl
names-then Input false o m s p r a b v t c h = (h.0, λ ne. let x = h.1 ne in omega arith)
names-then Output i true m s p r a b v t c h = tt
names-then Output i false true s p r a b v t c h = h
names-then Output i false false s p r a b v t c h = h
names-then Assignment i o true s p r a b v t c h = tt
names-then Assignment i o false s p r a b v t c h = omega arith
names-then Set i o true s p r a b v t c h = omega arith
names-then Set i o false s p r a b v t c h = omega arith
names-then Reset i o m s p r a b v t c h = omega arith
names-then Timeout i o m s p r a b v t c h = omega arith
names-then Rearm i o m s p r a b v t c h = omega arith
names-then Skip i o m s p r a b v t c h = tt
names-then Unknown i o m s p r a b v t c h = tt

-- an input or output that is left has an internal signal
pub input-inside : (g : Signal) (p : ℕ) → unfit_for g p Input ≡ false → is_inbound (class_of g.class) ≡ false → is_internal (class_of g.class) ≡ true
input-inside g p h n = by (class_of g.class) refl n
  where
    by : (c : Class) → class_of g.class ≡ c → is_inbound c ≡ false → is_internal c ≡ true
    by Internal q n = refl
    by Inbound q n = absurd (both_ways true n refl)
    by Outbound q n = let j = rw q at h in absurd (both_ways true j refl)
    by Absent q n = let j = rw q at h in absurd (both_ways true j refl)
    by Class.Unknown q n = let j = rw q at h in absurd (both_ways true j refl)

pub output-inside : (g : Signal) (p : ℕ) → unfit_for g p Output ≡ false → is_outbound (class_of g.class) ≡ false → is_internal (class_of g.class) ≡ true
output-inside g p h n = by (class_of g.class) refl n
  where
    by : (c : Class) → class_of g.class ≡ c → is_outbound c ≡ false → is_internal c ≡ true
    by Internal q n = refl
    by Inbound q n = let j = rw q at h in absurd (both_ways true j refl)
    by Outbound q n = absurd (both_ways true n refl)
    by Absent q n = let j = rw q at h in absurd (both_ways true j refl)
    by Class.Unknown q n = let j = rw q at h in absurd (both_ways true j refl)

-- g is the edge's signal, g' the one that its number then names in the closed table
pub unfit-then : (k : Kind) (i o m : Bool) (g g' : Signal) (p : ℕ) → is_inbound (class_of g.class) ≡ i → is_outbound (class_of g.class) ≡ o → (fate_as k i o m ≡ stays → is_internal (class_of g.class) ≡ true → g' ≡ g) → (fate_as k i o m ≡ emptied → is_internal (class_of g.class) ≡ true → g' ≡ g) → unfit_for g p k ≡ false → unfit_for g' p (kind_then k i o m) ≡ false
unfit-then Input true o m g g' p hi ho s t u = refl
unfit-then Input false o m g g' p hi ho s t u = ap (λ x. unfit_for x p Input) (s refl (input-inside g p u hi)) ∙ u
unfit-then Output i true m g g' p hi ho s t u = refl
unfit-then Output i false true g g' p hi ho s t u = ap (λ x. unfit_for x p Output) (t refl (output-inside g p u ho)) ∙ u
unfit-then Output i false false g g' p hi ho s t u = ap (λ x. unfit_for x p Output) (s refl (output-inside g p u ho)) ∙ u
unfit-then Assignment i o true g g' p hi ho s t u = refl
unfit-then Assignment i o false g g' p hi ho s t u = refl
unfit-then Set i o true g g' p hi ho s t u = refl
unfit-then Set i o false g g' p hi ho s t u = refl
unfit-then Reset i o m g g' p hi ho s t u = refl
unfit-then Timeout i o m g g' p hi ho s t u = refl
unfit-then Rearm i o m g g' p hi ho s t u = refl
unfit-then Skip i o m g g' p hi ho s t u = refl
unfit-then Unknown i o m g g' p hi ho s t u = refl

numbers-then : (k : Kind) (i o m : Bool) (c a b : ℕ) → numbers_bad k a b ≡ false → numbers_bad (kind_then k i o m) (first_under (fate_as k i o m) c a) (second_under (fate_as k i o m) b) ≡ false
numbers-then Input true o m c a b h = refl
numbers-then Input false o m c a b h = h
numbers-then Output i true m c a b h = refl
numbers-then Output i false true c a b h = h
numbers-then Output i false false c a b h = h
numbers-then Assignment i o true c a b h = refl
numbers-then Assignment i o false c a b h = h
numbers-then Set i o true c a b h = h
numbers-then Set i o false c a b h = h
numbers-then Reset i o m c a b h = h
numbers-then Timeout i o m c a b h = h
numbers-then Rearm i o m c a b h = h
numbers-then Skip i o m c a b h = h
numbers-then Unknown i o m c a b h = h

values-then : (k : Kind) (i o m : Bool) (s : Span) → value_bad k s ≡ false → value_bad (kind_then k i o m) (value_under (fate_as k i o m) s) ≡ false
values-then Input true o m s h = refl
values-then Input false o m s h = h
values-then Output i true m s h = refl
values-then Output i false true s h = refl
values-then Output i false false s h = h
values-then Assignment i o true s h = refl
values-then Assignment i o false s h = h
values-then Set i o true s h = refl
values-then Set i o false s h = h
values-then Reset i o m s h = h
values-then Timeout i o m s h = h
values-then Rearm i o m s h = h
values-then Skip i o m s h = h
values-then Unknown i o m s h = h

guardable-then : (k : Kind) (i o m : Bool) → guardable k ≡ true → guardable (kind_then k i o m) ≡ true
guardable-then Input i o m h = absurd (both_ways false refl h)
guardable-then Output i true m h = refl
guardable-then Output i false true h = refl
guardable-then Output i false false h = refl
guardable-then Assignment i o true h = refl
guardable-then Assignment i o false h = refl
guardable-then Set i o true h = refl
guardable-then Set i o false h = refl
guardable-then Reset i o m h = refl
guardable-then Timeout i o m h = absurd (both_ways false refl h)
guardable-then Rearm i o m h = absurd (both_ways false refl h)
guardable-then Skip i o m h = refl
guardable-then Unknown i o m h = refl

guard-kept : (k k' : Kind) (d : Mode) (s : Span) → (guardable k ≡ true → guardable k' ≡ true) → guard_bad d k s ≡ false → guard_bad d k' s ≡ false
guard-kept k k' Mode.Unguarded s g h = h
guard-kept k k' Mode.Expression s g h = ap not (g (not-false (guardable k) h))
guard-kept k k' Mode.Else s g h =
    let x = and_parts (guardable k) (empty s) (not-false (guardable k && empty s) h) in
    ap not (and_from (guardable k') (empty s) (g x.0) x.1)
guard-kept k k' Mode.Unknown s g h = absurd (both_ways true h refl)

guards_then : (k : Kind) (i o m b : Bool) (d : ℕ) (s : Span) → guard_bad (mode_of d) k s ≡ false → guard_bad (mode_of (cond b 0 d)) (kind_then k i o m) (cond b no_span s) ≡ false
guards_then k i o m true d s h = refl
guards_then k i o m false d s h = guard-kept k (kind_then k i o m) (mode_of d) s (guardable-then k i o m) h

pub form-then : (k : Kind) (i o m b : Bool) (c a n d : ℕ) (g v : Span) → (numbers_bad k a n || (guard_bad (mode_of d) k g || value_bad k v)) ≡ false → (numbers_bad (kind_then k i o m) (first_under (fate_as k i o m) c a) (second_under (fate_as k i o m) n) || (guard_bad (mode_of (cond b 0 d)) (kind_then k i o m) (cond b no_span g) || value_bad (kind_then k i o m) (value_under (fate_as k i o m) v))) ≡ false
form-then k i o m b c a n d g v h =
    let f = fate_as k i o m in
    let x = or_parts (numbers_bad k a n) (guard_bad (mode_of d) k g || value_bad k v) h in
    let y = or_parts (guard_bad (mode_of d) k g) (value_bad k v) x.1 in
    or_from (numbers_bad (kind_then k i o m) (first_under f c a) (second_under f n)) (guard_bad (mode_of (cond b 0 d)) (kind_then k i o m) (cond b no_span g) || value_bad (kind_then k i o m) (value_under f v)) (numbers-then k i o m c a n x.0)
    (or_from (guard_bad (mode_of (cond b 0 d)) (kind_then k i o m) (cond b no_span g)) (value_bad (kind_then k i o m) (value_under f v)) (guards_then k i o m b d g y.0) (values-then k i o m v y.1))

value-true : (f : Fate) (n : ℕ) (ts : List Term) (s : Span) → (ltb 0 s.count && not (sound n ts s)) ≡ false → (ltb 0 (value_under f s).count && not (sound n ts (value_under f s))) ≡ false
value-true stays n ts s h = h
value-true waits n ts s h = refl
value-true skipped n ts s h = refl
value-true emptied n ts s h = refl

guard-true : (b : Bool) (d n : ℕ) (ts : List Term) (s : Span) → (eqb d 1 && not (sound n ts s)) ≡ false → (eqb (cond b 0 d) 1 && not (sound n ts (cond b no_span s))) ≡ false
guard-true true d n ts s h = refl
guard-true false d n ts s h = h

pub untrue-then : (f : Fate) (b : Bool) (n d : ℕ) (ts : List Term) (g v : Span) → ((eqb d 1 && not (sound n ts g)) || (ltb 0 v.count && not (sound n ts v))) ≡ false → ((eqb (cond b 0 d) 1 && not (sound n ts (cond b no_span g))) || (ltb 0 (value_under f v).count && not (sound n ts (value_under f v)))) ≡ false
untrue-then f b n d ts g v h =
    let x = or_parts (eqb d 1 && not (sound n ts g)) (ltb 0 v.count && not (sound n ts v)) h in
    or_from (eqb (cond b 0 d) 1 && not (sound n ts (cond b no_span g))) (ltb 0 (value_under f v).count && not (sound n ts (value_under f v))) (guard-true b d n ts g x.0) (value-true f n ts v x.1)

-- the four tests of an edge
pub record Sound (T : Lists) (e : Edge) : Type 0 where
  pub there : missing T e ≡ false
  pub fit : unfit T e ≡ false
  pub form : malformed e ≡ false
  pub expressions : untrue T e ≡ false

pub sound-edge : (T : Lists) (e : Edge) → edge_fault T e ≡ None → Sound T e
unfolding edge_fault
sound-edge T e h =
    let a = first-none (missing T e) 7 ((unfit T e, 8) ∷ (malformed e, 10) ∷ (untrue T e, 9) ∷ []) h in
    let b = first-none (unfit T e) 8 ((malformed e, 10) ∷ (untrue T e, 9) ∷ []) a.1 in
    let c = first-none (malformed e) 10 ((untrue T e, 9) ∷ []) b.1 in
    let d = first-none (untrue T e) 9 [] c.1 in
    record { there = a.0; fit = b.0; form = c.0; expressions = d.0 }

pub edge-sound : (T : Lists) (e : Edge) → Sound T e → edge_fault T e ≡ None
unfolding edge_fault
edge-sound T e h =
    none_first (missing T e) 7 ((unfit T e, 8) ∷ (malformed e, 10) ∷ (untrue T e, 9) ∷ []) h.there
    (none_first (unfit T e) 8 ((malformed e, 10) ∷ (untrue T e, 9) ∷ []) h.fit
    (none_first (malformed e) 10 ((untrue T e, 9) ∷ []) h.form (none_first (untrue T e) 9 [] h.expressions refl)))
