-- Lists of calls on a book, one call more at a time.
use Rattle.std.proofs.Common.{◌≡◌, ℕ, zero, suc, ◌+◌, ◌*◌, List, [], ◌∷◌, ◌++◌, take, drop, length, None, Ok, Err, OnOk, OnErr, Result, refl, sym, ap, ◌∙◌, subst, arith}
use Rattle.std.proofs.lemmas.List.{length-append, length-map, map-append, replicate-append-replicate}
use Rattle.std.proofs.Math.ListN.{replicate}
use Rattle.std.proofs.Math.Seq.{take-append_seam}
use Rattle.std.specs.Int.{w64, to_be_bytes}
use Rattle.book.specs.Books.{Whole, lacking, room}
use Rattle.book.specs.Calls.{Pages, Room, Does, empty}
use Rattle.book.specs.Histories.{Entry, Follows}
use Rattle.book.specs.declared.book.Book.{Book}
use Rattle.book.specs.declared.fault.BookFault.{BookFault}
use Rattle.bridge.proofs.Overlays.{length-spelled, spelled-append, spelled-more}
use Rattle.bridge.specs.Answers.{Made, answers_of}
use Rattle.bridge.specs.Calls.{call_at, calls_to, room_in}
use Rattle.bridge.specs.Codes.{number_code}
use Rattle.bridge.specs.Laid.{laid, spelled}
use Rattle.bridge.specs.Tables.{words_of}
use Rattle.refusal.specs.declared.fault.Refusal.{Refusal}
use Rattle.table.specs.Lists.{Lists}
use Rattle.table.specs.declared.record.Edge.{Edge}
use Rattle.table.specs.declared.record.Term.{Term}

-- a call behind those that were made
follows-more : (s : Pages) (es : List Entry) (u : Pages) (e : Entry) (t : Pages) → Follows s es u → Does e.room e.call u e.answer t → Follows s (es ++ e ∷ []) t
unfolding Follows
follows-more s [] u e t h d = (t, subst (λ (v : Pages). Does e.room e.call v e.answer t) h d, refl)
follows-more s (x ∷ es) u e t h d = (h.0, h.1, follows-more h.0 es u e t h.2 d)

module _ (bs : List ℕ) where
  calls-more : (n : ℕ) → calls_to bs (n + 1) ≡ calls_to bs n ++ call_at bs (4 + 64 * n) ∷ []
  unfolding calls_to
  calls-more n = let e : n + 1 ≡ suc n = omega arith in rw e refl

  length-calls : (n : ℕ) → length (calls_to bs n) ≡ n
  unfolding calls_to
  length-calls zero = refl
  length-calls (suc n) = length-append (calls_to bs n) (call_at bs (4 + 64 * n) ∷ []) ∙ ap (λ k. k + 1) (length-calls n) ∙ omega arith

  pub made-none : (t : Pages) → t ≡ empty → Made bs 0 [] t
  unfolding calls_to Follows
  made-none t h = record { calls = refl; lent = refl; follows = h }

  pub answers-length : (n : ℕ) (es : List Entry) (t : Pages) → Made bs n es t → length (answers_of es) ≡ n
  answers-length n es t m =
      length-map es (λ e. number_code e.answer) ∙ sym (length-map es (λ e. e.call)) ∙ ap length m.calls ∙ length-calls n

module _ (bs : List ℕ) (n : ℕ) (es : List Entry) (u : Pages) (R : Room) (r : Result ℕ Refusal) (t : Pages) where
  abbrev pub entry : Entry
  entry = record { room = R; call = call_at bs (4 + 64 * n); answer = r }

  pub made-more : R ≡ room_in bs → Does R (call_at bs (4 + 64 * n)) u r t → Made bs n es u → Made bs (n + 1) (es ++ entry ∷ []) t
  made-more h d m = record {
    calls = map-append (λ e. e.call) es (entry ∷ []) ∙ ap (λ cs. cs ++ call_at bs (4 + 64 * n) ∷ []) m.calls ∙ sym (calls-more bs n);
    lent = map-append (λ e. e.room) es (entry ∷ []) ∙ ap (λ rs. rs ++ R ∷ []) m.lent ∙ ap (λ (S : Room). replicate n (room_in bs) ++ S ∷ []) h ∙ replicate-append-replicate n 1 (room_in bs);
    follows = follows-more empty es u entry t m.follows d;
  }

pub answers-laid : (es : List Entry) (e : Entry) (w : ℕ) (old : List ℕ) → w ≡ number_code e.answer → laid (spelled (answers_of es) ++ to_be_bytes w64 w) old ≡ laid (spelled (answers_of (es ++ e ∷ []))) old
answers-laid es e w old h = ap (λ t. laid t old) (
    ap (λ v. spelled (answers_of es) ++ to_be_bytes w64 v) h ∙ sym (spelled-more (answers_of es) _) ∙ ap spelled (sym (map-append (λ x. number_code x.answer) es (e ∷ []))))

pub answers-none : (old : List ℕ) → old ≡ laid (spelled (answers_of [])) old
unfolding spelled laid
answers-none old = refl

pub room-same : (es fs : List Edge) (ts us : List Term) → length es ≡ length fs → length ts ≡ length us → room es ts ≡ room fs us
room-same es fs ts us h k = rw (h, k) refl

pub answers-taken : (bs : List ℕ) (n : ℕ) (es : List Entry) (t : Pages) (new old : List ℕ) → Made bs n es t → new ≡ laid (spelled (answers_of es)) old → take (8 * n) new ≡ spelled (answers_of es)
unfolding laid
answers-taken bs n es t new old m h =
    let done = spelled (answers_of es) in
    let size : 8 * n ≡ length done = sym (length-spelled (answers_of es) ∙ ap (λ k. 8 * k) (answers-length bs n es t m)) in
    ap (take (8 * n)) h ∙ ap (λ k. take k (done ++ drop (length done) old)) size ∙ take-append_seam done (drop (length done) old)

-- what is written in three parts
pub three-parts : (es : List Entry) (T C U : Lists) (xs : List ℕ) → xs ≡ spelled (answers_of es) → U ≡ T → xs ++ spelled (words_of U) ++ spelled (words_of C) ≡ spelled (answers_of es ++ words_of T ++ words_of C)
three-parts es T C U xs h k =
    ap (λ ys. ys ++ spelled (words_of U) ++ spelled (words_of C)) h
    ∙ ap (λ (V : Lists). spelled (answers_of es) ++ spelled (words_of V) ++ spelled (words_of C)) k
    ∙ ap (λ ys. ys ++ spelled (words_of C)) (sym (spelled-append (answers_of es) (words_of T)))
    ∙ sym (spelled-append (answers_of es ++ words_of T) (words_of C))

-- what a call leaves lacks nothing
pub whole-after : {A : Type 0} (r : Result A BookFault) (b d : Book) (es fs : List Edge) (ts us : List Term) → OnOk r (Whole d fs us) → OnErr r (d ≡ b) → OnErr r (fs ≡ es) → OnErr r (us ≡ ts) → lacking b es ts ≡ None → lacking d fs us ≡ None
whole-after (Ok x) b d es fs ts us w p q k h = w.lent
whole-after (Err f) b d es fs ts us w p q k h = rw (p, q, k) h

pub unaltered : {A X : Type 0} (r : Result A BookFault) (x : X) → OnErr r (x ≡ x)
unaltered (Ok y) x = tt
unaltered (Err f) x = refl
