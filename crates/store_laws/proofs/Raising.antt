-- A commit by what stands before it: it is of the only instance that writes the file, and its vector is the written one of the new version.
use Rattle.std.proofs.Common.{◌≡◌, ℕ, zero, suc, ◌+◌, ◌-◌, ◌<◌, ◌≤◌, ◌==◌, Bool, true, false, not, cond, ◌&&◌, filter, List, [], ◌∷◌, length, map, max, replicate, Option, Some, None, refl, sym, ◌∙◌, ap, subst, arith}
use Rattle.std.specs.List.{AllByRecursion, find}
use Rattle.std.proofs.lemmas.Bool.Decides.{nat_tests}
use Rattle.role_steps.proofs.of_plain_facts.Numbers.{equal, equal_self}
use Rattle.role_steps.proofs.of_plain_facts.Options.{none_some, some_same}
use Rattle.role_steps.proofs.of_plain_facts.Tests.{and_first, and_second, true_false}
use Rattle.locus_ids.specs.declared.config.Config.{Config}
use Rattle.locus_ids.specs.declared.ids.FileId.{FileId}
use Rattle.locus_ids.specs.declared.ids.Stamp.{Stamp}
use Rattle.locus_ids.specs.Sizes.{sites_max}
use Rattle.version_vector.specs.Counters.{part, raised}
use Rattle.commit_graph.specs.Counters.{counter, greatest, next_number}
use Rattle.commit_graph.specs.Grants.{is_read}
use Rattle.commit_graph.specs.Vectors.{numbers_from, vector_of}
use Rattle.commit_graph.specs.Versions.{is_version, same_file}
use Rattle.commit_graph.specs.declared.history.Version.{Version}
use Rattle.tree_model.specs.declared.instance.Instance.{Instance as Open}
use Rattle.tree_model.specs.Lists.{change_first}
use Rattle.tree_model.specs.State.{is_writer}
use Rattle.lawful_trace.specs.TreeRows.{is_writing}
use Rattle.the_run.specs.Worlds.{Line}
use Rattle.tree_model.specs.Histories.{history}
use Rattle.tree_laws.specs.Printed.{entries}
use Rattle.tree_laws.specs.Packets.{JoinsParents}
use Rattle.tree_laws.proofs.Owing.{writer_writes}
use Rattle.tree_laws.specs.Orders.Alone.{AreAlone, MayStandBy}
use Rattle.tree_laws.proofs.Orders.Lists.{all_found}
use Rattle.tree_laws.proofs.Orders.Standing.{same_file_eq}

-- ---- the only one that writes ----

not_true : (b : Bool) → not b ≡ true → b ≡ true → ⊥
not_true true e k = true_false (sym e)
not_true false e k = true_false (sym k)

-- of two that stand by each other not both write the file
apart_writers : (f : FileId) (x y : Open) → MayStandBy x y → is_writing f x ≡ true → is_writing f y ≡ true → ⊥
apart_writers f x y k a b = not_true (is_read x.grant.mode) (and_second (same_file x.grant.file f) (not (is_read x.grant.mode)) a) (k same).0
  where
    same : same_file x.grant.file y.grant.file ≡ true
    same = subst (λ (g : FileId). same_file x.grant.file g ≡ true) (sym (same_file_eq y.grant.file f (and_first (same_file y.grant.file f) (not (is_read y.grant.mode)) b))) (and_first (same_file x.grant.file f) (not (is_read x.grant.mode)) a)

none_writes : (f : FileId) (x : Open) (ys : List Open) → AllByRecursion (MayStandBy x) ys → is_writing f x ≡ true → filter (is_writing f) ys ≡ []
none_writes f x [] h w = refl
none_writes f x (y ∷ ys) h w = at (none_writes f x ys h.1 w) (is_writing f y) refl
  where
    at : filter (is_writing f) ys ≡ [] → (b : Bool) → is_writing f y ≡ b → cond b (y ∷ filter (is_writing f) ys) (filter (is_writing f) ys) ≡ []
    at later true e = absurd (apart_writers f x y h.0 w e)
    at later false e = later

-- what writes the file is the only one that does
pub one_writes : (f : FileId) (p : Open → Bool) (xs : List Open) (x : Open) → AreAlone xs → find p xs ≡ Some x → is_writing f x ≡ true → filter (is_writing f) xs ≡ x ∷ []
one_writes f p [] x h e w = absurd (none_some x e)
one_writes f p (y ∷ ys) x h e w = at (λ (k : find p ys ≡ Some x). one_writes f p ys x h.1 k w) (p y) (is_writing f y) refl e
  where
    here : y ≡ x → (b : Bool) → is_writing f y ≡ b → cond b (y ∷ filter (is_writing f) ys) (filter (is_writing f) ys) ≡ x ∷ []
    here same true t = ap (λ zs. y ∷ zs) (none_writes f y ys h.0 t) ∙ ap (λ z. z ∷ []) same
    here same false t = absurd (true_false (sym (ap (is_writing f) same ∙ w) ∙ t))

    at : (find p ys ≡ Some x → filter (is_writing f) ys ≡ x ∷ []) → (a b : Bool) → is_writing f y ≡ b → cond a (Some y) (find p ys) ≡ Some x → cond b (y ∷ filter (is_writing f) ys) (filter (is_writing f) ys) ≡ x ∷ []
    at later true b t k = here (some_same y x k) b t
    at later false true t k = absurd (apart_writers f y x (all_found (MayStandBy y) p ys x h.0 k) t w)
    at later false false t k = later k

cons_first : {A : Type 0} (a b : A) (xs ys : List A) → a ∷ xs ≡ b ∷ ys → a ≡ b
cons_first a b xs ys e = cc

cons_rest : {A : Type 0} (a b : A) (xs ys : List A) → a ∷ xs ≡ b ∷ ys → xs ≡ ys
cons_rest a b xs ys e = cc

-- the first writer is it
pub first_writer : (f : FileId) (s : ℕ) (xs : List Open) (x : Open) → filter (is_writing f) xs ≡ x ∷ [] → is_writer f s x ≡ true → find (is_writer f s) xs ≡ Some x
first_writer f s [] x e q = absurd (empty e)
  where
    empty : ◌≡◌ {A = List Open} [] (x ∷ []) → ⊥
    empty e = cc
first_writer f s (y ∷ ys) x e q = at (λ (k : filter (is_writing f) ys ≡ x ∷ []). first_writer f s ys x k q) (is_writer f s y) (is_writing f y) refl refl e
  where
    at : (filter (is_writing f) ys ≡ x ∷ [] → find (is_writer f s) ys ≡ Some x) → (a b : Bool) → is_writer f s y ≡ a → is_writing f y ≡ b → cond b (y ∷ filter (is_writing f) ys) (filter (is_writing f) ys) ≡ x ∷ [] → cond a (Some y) (find (is_writer f s) ys) ≡ Some x
    at later true true t u k = ap Some (cons_first y x (filter (is_writing f) ys) [] k)
    at later true false t u k = absurd (true_false (sym (writer_writes f s y t) ∙ u))
    at later false true t u k = absurd (true_false (sym (ap (is_writer f s) (cons_first y x (filter (is_writing f) ys) [] k) ∙ q) ∙ t))
    at later false false t u k = later k

not_among : (f : FileId) (p : Open → Bool) (ys : List Open) (x : Open) → filter (is_writing f) ys ≡ [] → is_writing f x ≡ true → find p ys ≡ Some x → ⊥
not_among f p [] x e w k = none_some x k
not_among f p (y ∷ ys) x e w k = at (λ (a : filter (is_writing f) ys ≡ []) (b : find p ys ≡ Some x). not_among f p ys x a w b) (p y) (is_writing f y) refl e k
  where
    empty : {A : Type 0} (a : A) (as_after : List A) → a ∷ as_after ≡ [] → ⊥
    empty a as_after e = cc

    at : (filter (is_writing f) ys ≡ [] → find p ys ≡ Some x → ⊥) → (a b : Bool) → is_writing f y ≡ b → cond b (y ∷ filter (is_writing f) ys) (filter (is_writing f) ys) ≡ [] → cond a (Some y) (find p ys) ≡ Some x → ⊥
    at later a true t e k = empty y (filter (is_writing f) ys) e
    at later true false t e k = true_false (sym w ∙ (ap (is_writing f) (sym (some_same y x k)) ∙ t))
    at later false false t e k = later e k

-- where the first writer is changed, it is found changed
pub writer_changed : (f : FileId) (s : ℕ) (p : Open → Bool) (change : Open → Open) → ((y : Open) → p (change y) ≡ p y) → (xs : List Open) (x : Open) → filter (is_writing f) xs ≡ x ∷ [] → is_writer f s x ≡ true → find p xs ≡ Some x → find p (change_first (is_writer f s) change xs) ≡ Some (change x)
writer_changed f s p change same [] x e q k = absurd (none_some x k)
writer_changed f s p change same (y ∷ ys) x e q k = at (λ (a : filter (is_writing f) ys ≡ x ∷ []) (b : find p ys ≡ Some x). writer_changed f s p change same ys x a q b) (is_writer f s y) (is_writing f y) (p y) refl refl refl e k
  where
    found : (a : Bool) → p y ≡ a → a ≡ true → cond (p (change y)) (Some (change y)) (find p ys) ≡ Some (change y)
    found a t u = ap (λ (b : Bool). cond b (Some (change y)) (find p ys)) (same y ∙ (t ∙ u))

    at : (filter (is_writing f) ys ≡ x ∷ [] → find p ys ≡ Some x → find p (change_first (is_writer f s) change ys) ≡ Some (change x)) → (a b d : Bool) → is_writer f s y ≡ a → is_writing f y ≡ b → p y ≡ d → cond b (y ∷ filter (is_writing f) ys) (filter (is_writing f) ys) ≡ x ∷ [] → cond d (Some y) (find p ys) ≡ Some x →
        find p (cond a (change y ∷ ys) (y ∷ change_first (is_writer f s) change ys)) ≡ Some (change x)
    at later true b true t u v e k = found true v refl ∙ ap (λ z. Some (change z)) (some_same y x k)
    at later true true false t u v e k = absurd (not_among f p ys x (cons_rest y x (filter (is_writing f) ys) [] e) (writer_writes f s x q) k)
    at later true false false t u v e k = absurd (true_false (sym (writer_writes f s y t) ∙ u))
    at later false b true t u v e k = absurd (true_false (sym (ap (is_writer f s) (some_same y x k) ∙ q) ∙ t))
    at later false true false t u v e k = absurd (true_false (sym (ap (is_writer f s) (cons_first y x (filter (is_writing f) ys) [] e) ∙ q) ∙ t))
    at later false false false t u v e k = (ap (λ (b : Bool). cond b (Some y) (find p (change_first (is_writer f s) change ys))) v ∙ later e k)

-- ---- vectors ----

pub lists_same : (a b : List ℕ) → length a ≡ length b → ((k : ℕ) → k < length a → part a k ≡ part b k) → a ≡ b
lists_same [] [] e h = refl
lists_same [] (y ∷ ys) e h = absurd (empty e)
  where
    empty : 0 ≡ suc (length ys) → ⊥
    empty e = omega (arith, e)
lists_same (x ∷ xs) [] e h = absurd (empty e)
  where
    empty : suc (length xs) ≡ 0 → ⊥
    empty e = omega (arith, e)
lists_same (x ∷ xs) (y ∷ ys) e h = (let first : x ≡ y = h 0 (zero_less (length xs)) in let rest : xs ≡ ys = lists_same xs ys (less e) (λ k lt. h (suc k) (more k lt)) in λ j. first j ∷ rest j)
  where
    zero_less : (n : ℕ) → 0 < suc n
    zero_less n = omega arith

    less : suc (length xs) ≡ suc (length ys) → length xs ≡ length ys
    less e = omega (arith, e)

    more : (k : ℕ) → k < length xs → suc k < suc (length xs)
    more k lt = omega (arith, lt)

part_numbers : (g : ℕ → ℕ) (n first i : ℕ) → i < n → part (map g (numbers_from first n)) i ≡ g (first + i)
part_numbers g zero first i lt = absurd (empty lt)
  where
    empty : i < 0 → ⊥
    empty lt = omega (arith, lt)
part_numbers g (suc n) first zero lt = ap g (zero_more first)
  where
    zero_more : (a : ℕ) → a ≡ a + 0
    zero_more a = omega arith
part_numbers g (suc n) first (suc i) lt = part_numbers g n (first + 1) i (less lt) ∙ ap g (shift first i)
  where
    less : suc i < suc n → i < n
    less lt = omega (arith, lt)

    shift : (a b : ℕ) → a + 1 + b ≡ a + suc b
    shift a b = omega arith

pub part_written : (h : List Version) (f : FileId) (s : Stamp) (k : ℕ) → k < sites_max → part (vector_of h f s) k ≡ counter h f s (1 + k)
part_written h f s k lt = part_numbers (counter h f s) sites_max 1 k lt

-- the counters of what joins the parents are the greatest of theirs
pub joins_greatest : (c : Config) (trace : List Line) (f : FileId) (ps : List Stamp) (v : List ℕ) → JoinsParents c trace f ps v → (k : ℕ) → k < sites_max → part v k ≡ greatest (λ p. counter (history c (entries trace)) f p (1 + k)) ps
joins_greatest c trace f [] v j k lt = j.0 k
joins_greatest c trace f (p ∷ ps) v j k lt = j.3 k ∙ (ap (λ (n : ℕ). max n (part j.0 k)) (part_written (history c (entries trace)) f p k lt) ∙ ap (max (counter (history c (entries trace)) f p (1 + k))) (joins_greatest c trace f ps j.0 j.2 k lt))

pub sixteen : (c : Config) (trace : List Line) (f : FileId) (ps : List Stamp) (v : List ℕ) → JoinsParents c trace f ps v → length v ≡ sites_max
sixteen c trace f [] v j = j.1
sixteen c trace f (p ∷ ps) v j = j.4

pub length_raised : (v : List ℕ) (i : ℕ) → i < length v → length (raised v i) ≡ length v
length_raised [] i lt = absurd (empty lt)
  where
    empty : i < 0 → ⊥
    empty lt = omega (arith, lt)
length_raised (x ∷ v) zero lt = refl
length_raised (x ∷ v) (suc i) lt = ap suc (length_raised v i (less lt))
  where
    less : suc i < suc (length v) → i < length v
    less lt = omega (arith, lt)

pub zeros : (n s : ℕ) → part (replicate n 0) s ≡ 0
zeros zero s = refl
zeros (suc n) zero = refl
zeros (suc n) (suc s) = zeros n s

pub raised_same : (v : List ℕ) (i : ℕ) → part (raised v i) i ≡ part v i + 1
raised_same [] zero = refl
raised_same [] (suc i) = raised_same [] i
raised_same (x ∷ v) zero = suc_more x
  where
    suc_more : (a : ℕ) → suc a ≡ a + 1
    suc_more a = omega arith
raised_same (x ∷ v) (suc i) = raised_same v i

pub raised_other : (v : List ℕ) (i j : ℕ) → (j ≡ i → ⊥) → part (raised v i) j ≡ part v j
raised_other [] zero zero ne = absurd (ne refl)
raised_other [] zero (suc j) ne = refl
raised_other [] (suc i) zero ne = refl
raised_other [] (suc i) (suc j) ne = raised_other [] i j (λ e. ne (ap suc e))
raised_other (x ∷ v) zero zero ne = absurd (ne refl)
raised_other (x ∷ v) zero (suc j) ne = refl
raised_other (x ∷ v) (suc i) zero ne = refl
raised_other (x ∷ v) (suc i) (suc j) ne = raised_other v i j (λ e. ne (ap suc e))

-- the raised vector is the written one of the new version
pub vector_written : (c : Config) (trace : List Line) (f : FileId) (site : ℕ) (ps : List Stamp) (v : List ℕ) (stamp : Stamp) (content : List ℕ) → 1 ≤ site → site ≤ sites_max → JoinsParents c trace f ps v →
    raised v (site - 1) ≡ vector_of (record { file = f; site = site; stamp = stamp; parents = ps; content = content } ∷ history c (entries trace)) f stamp
vector_written c trace f site ps v stamp content low high j = lists_same (raised v (site - 1)) (vector_of new f stamp) (long ∙ sym (written_long new)) (λ k lt. each k (subst (λ (n : ℕ). k < n) long lt))
  where
    h : List Version
    h = history c (entries trace)

    new : List Version
    new = record { file = f; site = site; stamp = stamp; parents = ps; content = content } ∷ history c (entries trace)

    below : site - 1 < sites_max
    below = omega (arith, low, high)

    long : length (raised v (site - 1)) ≡ sites_max
    long = length_raised v (site - 1) (subst (λ (n : ℕ). site - 1 < n) (sym (sixteen c trace f ps v j)) below) ∙ sixteen c trace f ps v j

    written_long : (older : List Version) → length (vector_of older f stamp) ≡ sites_max
    written_long older = refl

    own : is_version f stamp (record { file = f; site = site; stamp = stamp; parents = ps; content = content }) ≡ true
    own = grind (arith, nat_tests)

    counted : (k : ℕ) → counter new f stamp (1 + k) ≡ greatest (λ p. counter (history c (entries trace)) f p (1 + k)) ps + cond (site == 1 + k) 1 0
    counted k = ap (λ (b : Bool). cond b (greatest (λ p. counter (history c (entries trace)) f p (1 + k)) ps + cond (site == 1 + k) 1 0) (counter (history c (entries trace)) f stamp (1 + k))) own

    by_site : (k : ℕ) → k < sites_max → (b : Bool) → (site == 1 + k) ≡ b → part (raised v (site - 1)) k ≡ part v k + cond b 1 0
    by_site k lt true e = subst (λ (n : ℕ). part (raised v n) k ≡ part v k + 1) (same (equal site (1 + k) e)) (raised_same v k)
      where
        same : site ≡ 1 + k → k ≡ site - 1
        same e = omega (arith, e)
    by_site k lt false e = raised_other v (site - 1) k (λ same. other same) ∙ none (part v k)
      where
        own_test : (a b : ℕ) → a ≡ b → (a == b) ≡ true
        own_test a b e = subst (λ (n : ℕ). (a == n) ≡ true) e (equal_self a)

        back : k ≡ site - 1 → site ≡ 1 + k
        back same = omega (arith, same, low)

        other : k ≡ site - 1 → ⊥
        other same = true_false (sym (own_test site (1 + k) (back same)) ∙ e)

        none : (a : ℕ) → a ≡ a + 0
        none a = omega arith

    each : (k : ℕ) → k < sites_max → part (raised v (site - 1)) k ≡ part (vector_of new f stamp) k
    each k lt = by_site k lt (site == 1 + k) refl ∙ (ap (λ (n : ℕ). n + cond (site == 1 + k) 1 0) (joins_greatest c trace f ps v j k lt) ∙ (sym (counted k) ∙ sym (part_written new f stamp k lt)))

-- the number of the next stamp
pub next_numbered : (c : Config) (trace : List Line) (f : FileId) (site : ℕ) (ps : List Stamp) (v : List ℕ) → 1 ≤ site → site ≤ sites_max → JoinsParents c trace f ps v → part (raised v (site - 1)) (site - 1) ≡ next_number (history c (entries trace)) f ps site
next_numbered c trace f site ps v low high j = raised_same v (site - 1) ∙ ap (λ (n : ℕ). n + 1) (joins_greatest c trace f ps v j (site - 1) below ∙ ap (λ (s : ℕ). greatest (λ p. counter (history c (entries trace)) f p s) ps) same)
  where
    below : site - 1 < sites_max
    below = omega (arith, low, high)

    same : 1 + (site - 1) ≡ site
    same = omega (arith, low)
