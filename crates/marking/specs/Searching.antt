-- How marks spread. An instance waits from when it is marked until it is followed.
--   State            words: the marked instances; signals: those that bring marked values; queue: the instances that wait, in their order
--   state s          the state of the search s
--   left s           how many instances are not marked, or wait
--   Marked s i       the instance i is marked, if there is a bit for it
--   Reached s f      what f says is marked
--   Allowed T N f    the marking N has what f says
--   Taken T s n      each input of signal n has marked what it stores
--   Followed T s e b   the edge e has marked what it leads to from bit b where it begins
--   Inside T N s     the marking N has all that is marked in s, and brings each signal of s
--   Grew T P s t     t is s with more marked: what is new waits, every marking that obeys the rules and of which P holds has it, and
--                    where in s the inputs of each signal had marked what they store, they have in t
--   ObeysButWaiting T s   s obeys the rules but for what still waits
--   LeastFrom T s t   t has the marks of s, and every marking that obeys the rules and has all that is marked in s has all that is in t
use Rattle.std.specs.Prelude.{◌≡◌, ℕ, ◌+◌, ◌<◌, Bool, true, false, ◌⊎◌, List, Some, length}
use Rattle.std.specs.List.{Contains, slice_get}
use Rattle.ring.specs.Queue.{held}
use Rattle.loading.specs.Following.{taking}
use Rattle.table.specs.Expressions.{part, mentions}
use Rattle.table.specs.Lists.{Lists}
use Rattle.table.specs.declared.record.Edge.{Edge}
use Rattle.marking.specs.Instances.{Fits, has, given, holds, unset}
use Rattle.marking.specs.Leads.{at_start, at_end, received, touches, is_inbound, fed}
use Rattle.marking.specs.declared.flow.Fed.{Fed}
use Rattle.marking.specs.declared.instance.Instance.{Instance}
use Rattle.marking.specs.declared.search.Search.{Search}
use Rattle.marks.specs.Rules.{Marking, Obeys, arrives, class_at}

pub record State : Type 0 where
  pub words : List ℕ
  pub signals : List Bool
  pub queue : List Instance

abbrev pub state : Search → State
state s = record { words = s.words; signals = s.signals; queue = held s.waiting s.places }

abbrev pub left : State → ℕ
left s = unset 2048 s.words + length s.queue

abbrev pub Marked : State → Instance → Type 0
Marked s i = Fits i → has s.words i ≡ true

abbrev pub Reached : State → Fed → Type 0
Reached s Fed.Nothing = Unit {0}
Reached s (Fed.Instance i) = Marked s i
Reached s (Fed.Signal n) = n < 64 → given s.signals n ≡ true

abbrev pub Allowed : Lists → Marking → Fed → Type 0
Allowed T N Fed.Nothing = Unit {0}
Allowed T N (Fed.Instance i) = holds N i ≡ true
Allowed T N (Fed.Signal n) = arrives T N n ≡ true

abbrev pub Taken : Lists → State → ℕ → Type 0
Taken T s n = (k : ℕ) (e : Edge) (i : Instance) → slice_get T.edges k ≡ Some e → taking n e ≡ true → received e ≡ Some i → Marked s i

pub record Followed (T : Lists) (s : State) (e : Edge) (b : ℕ) : Type 0 where
  pub passed : touches e b ≡ false → Marked s (at_end e b)
  pub fed : b < 8 → mentions (part T.terms e.value) b ≡ true → Reached s (fed T e)

pub record Inside (T : Lists) (N : Marking) (s : State) : Type 0 where
  pub marks : (i : Instance) → Fits i → has s.words i ≡ true → holds N i ≡ true
  pub signals : (n : ℕ) → given s.signals n ≡ true → arrives T N n ≡ true

pub record Grew (T : Lists) (P : Marking → Type 0) (s t : State) : Type 0 where
  pub marks : (i : Instance) → has s.words i ≡ true → has t.words i ≡ true
  pub signals : (n : ℕ) → given s.signals n ≡ true → given t.signals n ≡ true
  pub waits : (i : Instance) → Contains s.queue i → Contains t.queue i
  pub fresh : (i : Instance) → has t.words i ≡ true → (has s.words i ≡ true) ⊎ Contains t.queue i
  pub queued : (i : Instance) → Contains t.queue i → Contains s.queue i ⊎ (Fits i × (has t.words i ≡ true))
  pub inside : (N : Marking) → Obeys T N → P N → Inside T N s → Inside T N t
  pub taken : ((n : ℕ) → given s.signals n ≡ true → Taken T s n) → (n : ℕ) → given t.signals n ≡ true → Taken T t n
  pub same : left t ≡ left s

pub record ObeysButWaiting (T : Lists) (s : State) : Type 0 where
  pub waits : (i : Instance) → Contains s.queue i → Fits i × (has s.words i ≡ true)
  pub followed : (k : ℕ) (e : Edge) (b : ℕ) → slice_get T.edges k ≡ Some e → b < 16 → has s.words (at_start e b) ≡ true → Contains s.queue (at_start e b) ⊎ Followed T s e b
  pub taken : (n : ℕ) → given s.signals n ≡ true → Taken T s n
  pub inbound : (n : ℕ) → n < 64 → is_inbound (class_at T n) ≡ true → given s.signals n ≡ true

pub record LeastFrom (T : Lists) (s t : State) : Type 0 where
  pub marks : (i : Instance) → has s.words i ≡ true → has t.words i ≡ true
  pub inside : (N : Marking) → Obeys T N → Inside T N s → Inside T N t
