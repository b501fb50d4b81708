-- Lists: what is in them, some of them passing a test, their first that is refused, and their elements by number.
use Rattle.std.proofs.Common.{◌≡◌, ℕ, zero, suc, ◌+◌, ◌-◌, ◌<◌, ◌≤◌, Bool, true, false, cond, ◌||◌, ◌⊎◌, List, [], ◌∷◌, ◌++◌, map, length, get_or, take, replicate, is_some, Some, None, Option, sym, refl, ap, ◌∙◌, subst, inl, inr, ⊎_elim, suc-le-suc, zero-le, add-zero, add-suc, suc-add, zero-add, arith}
use Rattle.std.proofs.lemmas.List.{length-append, length-take-le, length-replicate, get_or-take, get_or_append_left, get_or-append_right, get_or-replicate, get_or_past}
use Rattle.std.proofs.lemmas.Bool.{cases_Bool, cases_eq, cases_lt, or_cases, or_parts, or_from, or_left, or_right, both_ways}
use Rattle.std.specs.List.{range_with_len, flat_map, list_any}
use Rattle.refusal.specs.Refusals.{first}
use Rattle.rules.specs.Matching.{position}
use Rattle.rules.specs.States.{numbered, padded}
use Rattle.table.proofs.Passing.{none-some}
use Rattle.table.specs.Examination.{first_from}

-- an element

abbrev pub In : {A : Type 0} → A → List A → Type 0
In x [] = ⊥
In x (y ∷ ys) = (x ≡ y) ⊎ In x ys

pub in_left : {A : Type 0} (x : A) (xs ys : List A) → In x xs → In x (xs ++ ys)
in_left x [] ys h = absurd h
in_left x (y ∷ xs) ys (inl e) = inl e
in_left x (y ∷ xs) ys (inr h) = inr (in_left x xs ys h)

pub in_right : {A : Type 0} (x : A) (xs ys : List A) → In x ys → In x (xs ++ ys)
in_right x [] ys h = h
in_right x (y ∷ xs) ys h = inr (in_right x xs ys h)

pub in_parts : {A : Type 0} (x : A) (xs ys : List A) → In x (xs ++ ys) → In x xs ⊎ In x ys
in_parts x [] ys h = inr h
in_parts x (y ∷ xs) ys (inl e) = inl (inl e)
in_parts x (y ∷ xs) ys (inr h) = ⊎_elim (λ l. inl (inr l)) inr (in_parts x xs ys h)

pub in-get_or : {A : Type 0} (xs : List A) (k : ℕ) (d : A) → k < length xs → In (get_or xs k d) xs
in-get_or [] k d h = absurd (omega arith)
in-get_or (x ∷ xs) zero d h = inl refl
in-get_or (x ∷ xs) (suc k) d (suc-le-suc h) = inr (in-get_or xs k d h)

pub in_all : {A : Type 0} (P : A → Type 0) (xs : List A) → ((k : ℕ) (d : A) → k < length xs → P (get_or xs k d)) → (x : A) → In x xs → P x
in_all P [] h x i = absurd i
in_all P (y ∷ ys) h x (inl e) = subst P (sym e) (h 0 y (suc-le-suc zero-le))
in_all P (y ∷ ys) h x (inr i) = in_all P ys (λ k d l. h (suc k) d (suc-le-suc l)) x i

pub in_map : {A B : Type 0} (f : A → B) (y : B) (xs : List A) → In y (map f xs) → (x : A) × (In x xs × (y ≡ f x))
in_map f y [] h = absurd h
in_map f y (x ∷ xs) (inl e) = (x, (inl refl, e))
in_map f y (x ∷ xs) (inr h) = let r = in_map f y xs h in (r.0, (inr r.1.0, r.1.1))

pub map-in : {A B : Type 0} (f : A → B) (x : A) (xs : List A) → In x xs → In (f x) (map f xs)
map-in f x [] h = absurd h
map-in f x (y ∷ ys) (inl e) = inl (ap f e)
map-in f x (y ∷ ys) (inr h) = inr (map-in f x ys h)

pub in-joined : {A B : Type 0} (f : A → List B) (y : B) (xs : List A) → In y (flat_map f xs) → (x : A) × (In x xs × In y (f x))
in-joined f y [] h = absurd h
in-joined f y (x ∷ xs) h =
    ⊎_elim (λ l. (x, (inl refl, l))) (λ r. let q = in-joined f y xs r in (q.0, (inr q.1.0, q.1.1))) (in_parts y (f x) (flat_map f xs) h)

pub joined_in : {A B : Type 0} (f : A → List B) (y : B) (x : A) (xs : List A) → In x xs → In y (f x) → In y (flat_map f xs)
joined_in f y x [] h m = absurd h
joined_in f y x (z ∷ xs) (inl e) m = in_left y (f z) (flat_map f xs) (subst (λ w. In y (f w)) e m)
joined_in f y x (z ∷ xs) (inr h) m = in_right y (f z) (flat_map f xs) (joined_in f y x xs h m)

pub in-counting : (k a n : ℕ) → In k (range_with_len a n) → (a ≤ k) × (k < a + n)
in-counting k a zero h = absurd h
in-counting k a (suc n) (inl e) = (omega arith, omega (arith, add-suc a n))
in-counting k a (suc n) (inr h) =
    let r = in-counting k (a + 1) n h in
    (omega (arith, r.0), omega (arith, r.1, add-suc a n))

pub counting-in : (k a n : ℕ) → a ≤ k → k < a + n → In k (range_with_len a n)
counting-in k a zero l h = absurd (omega (arith, add-zero a))
counting-in k a (suc n) l h = ⊎_elim inl (λ ne. inr (counting-in k (a + 1) n (omega arith) (omega (arith, add-suc a n)))) (cases_eq k a)

-- some element passes

pub any-in : {A : Type 0} (f : A → Bool) (x : A) (xs : List A) → In x xs → f x ≡ true → list_any f xs ≡ true
any-in f x [] h t = absurd h
any-in f x (y ∷ ys) (inl e) t = or_left (f y) (list_any f ys) (ap f (sym e) ∙ t)
any-in f x (y ∷ ys) (inr h) t = or_right (f y) (list_any f ys) (any-in f x ys h t)

pub none_in : {A : Type 0} (f : A → Bool) (x : A) (xs : List A) → list_any f xs ≡ false → In x xs → f x ≡ false
none_in f x xs e h = ⊎_elim (λ t. absurd (both_ways (list_any f xs) e (any-in f x xs h t))) (λ n. n) (cases_Bool (f x))

pub in-any : {A : Type 0} (f : A → Bool) (xs : List A) → list_any f xs ≡ true → (x : A) × (In x xs × (f x ≡ true))
in-any f [] e = absurd (both_ways false refl e)
in-any f (y ∷ ys) e =
    ⊎_elim (λ t. (y, (inl refl, t))) (λ r. let q = in-any f ys r in (q.0, (inr q.1.0, q.1.1))) (or_cases (f y) (list_any f ys) e)

pub in-none : {A : Type 0} (f : A → Bool) (xs : List A) → ((x : A) → In x xs → f x ≡ false) → list_any f xs ≡ false
in-none f [] h = refl
in-none f (x ∷ xs) h = or_from (f x) (list_any f xs) (h x (inl refl)) (in-none f xs (λ y m. h y (inr m)))

pub any_append : {A : Type 0} (f : A → Bool) (xs ys : List A) → list_any f (xs ++ ys) ≡ (list_any f xs || list_any f ys)
any_append f [] ys = refl
any_append f (x ∷ xs) ys = ap (λ b. f x || b) (any_append f xs ys) ∙ grouped (f x) (list_any f xs) (list_any f ys)
  where
    grouped : (a b c : Bool) → (a || (b || c)) ≡ ((a || b) || c)
    grouped true b c = refl
    grouped false b c = refl

pub any-map : {A B : Type 0} (f : B → Bool) (g : A → B) (h : A → Bool) (xs : List A) → ((x : A) → In x xs → f (g x) ≡ h x) → list_any f (map g xs) ≡ list_any h xs
any-map f g h [] e = refl
any-map f g h (x ∷ xs) e = rw (e x (inl refl), any-map f g h xs (λ y m. e y (inr m)))

-- the first that is refused

pub is_some-none : {A : Type 0} (o : Option A) → is_some o ≡ false → o ≡ None
is_some-none None e = refl
is_some-none (Some x) e = absurd (both_ways true e refl)

pub first-none : {R : Type 0} (b : Bool) (x : R) (ts : List (Bool × R)) → first ((b, x) ∷ ts) ≡ None → (b ≡ false) × (first ts ≡ None)
first-none true x ts e = none-some x (sym e)
first-none false x ts e = (refl, e)

pub none_first : {R : Type 0} (b : Bool) (x : R) (ts : List (Bool × R)) → b ≡ false → first ts ≡ None → first ((b, x) ∷ ts) ≡ None
none_first b x ts e r = rw (e, r)

pub first_from-all : (h : ℕ → Bool) (i n : ℕ) → first_from h i n ≡ None → (k : ℕ) → k < n → h (i + k) ≡ false
unfolding first_from
first_from-all h i zero e k l = absurd (omega arith)
first_from-all h i (suc n) e zero l = rw add-zero (by (h i) e)
  where
    by : (b : Bool) → cond b (Some i) (first_from h (i + 1) n) ≡ None → b ≡ false
    by true q = none-some i (sym q)
    by false q = refl
first_from-all h i (suc n) e (suc k) (suc-le-suc l) =
    let q : i + suc k ≡ (i + 1) + k = omega arith in
    rw q (first_from-all h (i + 1) n (by (h i) e) k l)
  where
    by : (b : Bool) → cond b (Some i) (first_from h (i + 1) n) ≡ None → first_from h (i + 1) n ≡ None
    by true q = none-some i (sym q)
    by false q = q

pub all-first_from : (h : ℕ → Bool) (i n : ℕ) → ((k : ℕ) → k < n → h (i + k) ≡ false) → first_from h i n ≡ None
unfolding first_from
all-first_from h i zero e = refl
all-first_from h i (suc n) e =
    let a = e 0 (suc-le-suc zero-le) in
    let b : h i ≡ false = rw add-zero at a in
    rw (b, all-first_from h (i + 1) n (λ k l. let q : (i + 1) + k ≡ i + suc k = omega arith in rw q (e (suc k) (suc-le-suc l))))

-- elements by number

pub length-numbered : {A B : Type 0} (f : ℕ → A → B) (i : ℕ) (xs : List A) → length (numbered f i xs) ≡ length xs
unfolding numbered
length-numbered f i [] = refl
length-numbered f i (x ∷ xs) = ap suc (length-numbered f (i + 1) xs)

pub get_or-numbered : {A B : Type 0} (f : ℕ → A → B) (i : ℕ) (xs : List A) (k : ℕ) (d : B) (e : A) → k < length xs → get_or (numbered f i xs) k d ≡ f (i + k) (get_or xs k e)
unfolding numbered
get_or-numbered f i [] k d e h = absurd (omega arith)
get_or-numbered f i (x ∷ xs) zero d e h = rw add-zero
get_or-numbered f i (x ∷ xs) (suc k) d e (suc-le-suc h) =
    let q : i + suc k ≡ (i + 1) + k = omega arith in
    rw q (get_or-numbered f (i + 1) xs k d e h)

-- the place of the first that passes

pub position-finds : {A : Type 0} (f : A → Bool) (xs : List A) (d : A) → list_any f xs ≡ true → (f (get_or xs (position f xs) d) ≡ true) × (position f xs < length xs)
unfolding position
position-finds f [] d e = absurd (both_ways false refl e)
position-finds f (x ∷ xs) d e = by (f x) refl e (position-finds f xs d)
  where
    by : (b : Bool) → f x ≡ b → (b || list_any f xs) ≡ true → (list_any f xs ≡ true → (f (get_or xs (position f xs) d) ≡ true) × (position f xs < length xs)) → (f (get_or (x ∷ xs) (cond b 0 (suc (position f xs))) d) ≡ true) × (cond b 0 (suc (position f xs)) < length (x ∷ xs))
    by true t q more = (t, omega arith)
    by false t q more = let r = more q in (r.0, suc-le-suc r.1)

-- a list that is cut or filled up

pub length-padded : {A : Type 0} (n : ℕ) (d : A) (xs : List A) → length (padded n d xs) ≡ n
unfolding padded
length-padded n d xs =
    length-take-le n (xs ++ replicate n d) (subst (λ k. n ≤ k) (sym (length-append xs (replicate n d) ∙ ap (λ k. length xs + k) (length-replicate n d))) (omega arith))

pub get_or-padded : {A : Type 0} (n : ℕ) (d : A) (xs : List A) (k : ℕ) → k < n → get_or (padded n d xs) k d ≡ get_or xs k d
unfolding padded
get_or-padded n d xs k h =
    get_or-take n (xs ++ replicate n d) k d h
    ∙ ⊎_elim (λ l. get_or_append_left xs (replicate n d) d k l)
    (λ l. get_or-append_right xs (replicate n d) (length xs) k d refl l ∙ get_or-replicate n (k - length xs) d d (omega arith) ∙ sym (get_or_past xs k d l))
    (cases_lt k (length xs))

any-take : {A : Type 0} (f : A → Bool) (n : ℕ) (xs : List A) → list_any f xs ≡ false → list_any f (take n xs) ≡ false
any-take f zero xs h = refl
any-take f (suc n) [] h = refl
any-take f (suc n) (x ∷ xs) h =
    let a = or_parts (f x) (list_any f xs) h in
    or_from (f x) (list_any f (take n xs)) a.0 (any-take f n xs a.1)

any-replicate : {A : Type 0} (f : A → Bool) (n : ℕ) (d : A) → f d ≡ false → list_any f (replicate n d) ≡ false
any-replicate f zero d h = refl
any-replicate f (suc n) d h = or_from (f d) (list_any f (replicate n d)) h (any-replicate f n d h)

pub any-padded : {A : Type 0} (f : A → Bool) (n : ℕ) (d : A) (xs : List A) → f d ≡ false → list_any f xs ≡ false → list_any f (padded n d xs) ≡ false
unfolding padded
any-padded f n d xs a b =
    any-take f n (xs ++ replicate n d) (any_append f xs (replicate n d) ∙ or_from (list_any f xs) (list_any f (replicate n d)) b (any-replicate f n d a))

pub take_past : {A : Type 0} (s t : List A) (m : ℕ) → take (length s + m) (s ++ t) ≡ s ++ take m t
take_past [] t m = ap (λ n. take n t) (zero-add m)
take_past (x ∷ s) t m = ap (λ n. take n (x ∷ (s ++ t))) (suc-add (length s) m) ∙ ap (λ l. x ∷ l) (take_past s t m)
