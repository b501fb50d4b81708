-- A process is its head and what follows it.
use Rattle.std.proofs.Common.{◌≡◌, ℕ, ◌+◌, List, refl}
use Rattle.reading.specs.Formats.{Answer, got, bad, after, each, field, plain, signed}
use Rattle.reading.specs.Layout.{head_format, process_format, timer_format}
use Rattle.reading.proofs.Chains.{after-got}
use Rattle.reading.specs.declared.records.Head.{Head}
use Rattle.table.specs.Lists.{Proc}

-- one chain behind another
chained : {A B C : Type 0} (a : Answer A) (f : A → ℕ → Answer B) (g : B → ℕ → Answer C) (h : A → ℕ → Answer C) → ((x : A) (q : ℕ) → h x q ≡ after (f x q) g) → after a h ≡ after (after a f) g
unfolding after
chained (got x q) f g h e = e x q
chained (bad r) f g h e = refl

-- what follows a head
abbrev pub rest : List ℕ → Head → ℕ → Answer Proc
rest bs h p =
    after (each h.variables (signed.reads bs) p) (λ values q.
    after (each h.timers (timer_format.reads bs) q) (λ settings e.
    got (record { locations = h.last + 1; first = h.first; variables = h.variables; timers = h.timers; values = values; settings = settings }) e))

pub headed : (bs : List ℕ) (p : ℕ) → process_format.reads bs p ≡ after (head_format.reads bs p) (rest bs)
unfolding process_format head_format after
headed bs p =
    chained ((plain 4).reads bs p) _ (rest bs) _ (λ last q.
    chained ((field 4 0 8 3).reads bs q) _ (rest bs) _ (λ variables q.
    chained ((field 4 0 8 3).reads bs q) _ (rest bs) _ (λ timers q.
    chained ((field 4 0 last 3).reads bs q) _ (rest bs) _ (λ first q. after-got _ q (rest bs)))))
