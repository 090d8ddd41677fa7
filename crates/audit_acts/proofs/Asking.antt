-- A rescue asks for the kept versions of removed entries' files alone.
use Rattle.std.proofs.Common.{◌≡◌, ℕ, ◌==◌, ◌&&◌, ◌||◌, not, Bool, true, false, cond, List, [], ◌∷◌, ◌++◌, filter, map, refl, sym, ap, ◌∙◌}
use Rattle.std.specs.List.{list_any}
use Rattle.locus_ids.specs.declared.ids.FileId.{FileId}
use Rattle.locus_ids.specs.declared.ids.Stamp.{Stamp}
use Rattle.commit_graph.specs.declared.history.Version.{Version}
use Rattle.commit_graph.specs.Versions.{is_covered, same_file, same_stamp}
use Rattle.commit_graph.specs.Vectors.{vector_of}
use Rattle.version_vector.specs.Counters.{all_le}
use Rattle.dir_format.specs.declared.entry.Entry.{Entry}
use Rattle.dir_format.specs.Entries.{is_live}
use Rattle.dir_reconcile.specs.declared.kept.KeptVector.{KeptVector}
use Rattle.dir_reconcile.specs.Rescues.{all_seen, chosen, entry_after_rescue, has_live, is_that, is_unseen, rescue_wanted, rescued, revived, wants_rescue}
use Rattle.tree_model.specs.State.{has_stamp}
use Rattle.promises.specs.Past.{Copy, candidates, kept_in}
use Rattle.promises.specs.Tree.{kept_vectors}
use Rattle.past_laws.proofs.TreesLists.{any_map}
use Rattle.past_laws.proofs.Names.{both, both_parts, false_true, file_eq, number_eq, number_own, same_value, stamp_eq, stamp_own}
use Rattle.audit_acts.specs.Knowing.{knowing, of_history, vectors_of, vectors_removed}

any_append : {X : Type 0} (p : X → Bool) (xs ys : List X) → list_any p (xs ++ ys) ≡ (list_any p xs || list_any p ys)
any_append p [] ys = refl
any_append p (x ∷ xs) ys = at (any_append p xs ys) (p x)
  where
    at : list_any p (xs ++ ys) ≡ (list_any p xs || list_any p ys) → (b : Bool) → (b || list_any p (xs ++ ys)) ≡ ((b || list_any p xs) || list_any p ys)
    at others true = refl
    at others false = others

or_parts : {A : Type 0} (a b : Bool) → (a || b) ≡ true → (a ≡ true → A) → (b ≡ true → A) → A
or_parts true b h f g = f refl
or_parts false b h f g = g h

or_left : (a b : Bool) → a ≡ true → (a || b) ≡ true
or_left true b h = refl
or_left false b h = false_true h

or_right : (a b : Bool) → b ≡ true → (a || b) ≡ true
or_right true b h = refl
or_right false b h = h

any_same : {X : Type 0} (p q : X → Bool) → ((x : X) → p x ≡ q x) → (xs : List X) → list_any p xs ≡ list_any q xs
any_same p q same [] = refl
any_same p q same (x ∷ xs) = ap (λ b. b || list_any p xs) (same x) ∙ ap (λ b. q x || b) (any_same p q same xs)

any_filter : {X : Type 0} (p q : X → Bool) (xs : List X) → list_any p (filter q xs) ≡ list_any (λ x. q x && p x) xs
any_filter p q [] = refl
any_filter p q (x ∷ xs) = at (any_filter p q xs) (q x)
  where
    at : list_any p (filter q xs) ≡ list_any (λ x. q x && p x) xs → (b : Bool) → list_any p (cond b (x ∷ filter q xs) (filter q xs)) ≡ ((b && p x) || list_any (λ x. q x && p x) xs)
    at others true = ap (λ b. p x || b) others
    at others false = others

-- Kept versions are among those that they are kept of.

module _ (u : Stamp → Bool) where
  any_of_one : (ss : List Stamp) (s : Stamp) → has_stamp ss s ≡ true → u s ≡ true → list_any u ss ≡ true
  any_of_one [] s h us = false_true h
  any_of_one (t ∷ ss) s h us = or_parts (same_stamp t s) (has_stamp ss s) h
      (λ e. or_left (u t) (list_any u ss) (ap u (stamp_eq t s e) ∙ us))
      (λ e. or_right (u t) (list_any u ss) (any_of_one ss s e us))

  any_of_these : (ks cs : List Stamp) → list_any (λ s. has_stamp ks s && u s) cs ≡ true → list_any u ks ≡ true
  any_of_these ks [] h = false_true h
  any_of_these ks (c ∷ cs) h = or_parts (has_stamp ks c && u c) (list_any (λ s. has_stamp ks s && u s) cs) h
      (λ e. let two = both_parts (has_stamp ks c) (u c) e in any_of_one ks c two.0 two.1)
      (λ e. any_of_these ks cs e)

  any_kept : (q : Stamp → Bool) (cs all : List Stamp) → ((s : Stamp) → has_stamp (filter q cs) s ≡ true → has_stamp all s ≡ true) → list_any u (filter q cs) ≡ true → list_any (λ s. has_stamp all s && u s) cs ≡ true
  any_kept q [] all within h = false_true h
  any_kept q (c ∷ cs) all within h = at (any_kept q cs all) (q c) refl
    where
      rest : Bool
      rest = list_any (λ s. has_stamp all s && u s) cs

      at : (((s : Stamp) → has_stamp (filter q cs) s ≡ true → has_stamp all s ≡ true) → list_any u (filter q cs) ≡ true → list_any (λ s. has_stamp all s && u s) cs ≡ true) → (b : Bool) → q c ≡ b
          → ((has_stamp all c && u c) || list_any (λ s. has_stamp all s && u s) cs) ≡ true
      at others true e = or_parts (u c) (list_any u (filter q cs)) (ap (λ b. list_any u (cond b (c ∷ filter q cs) (filter q cs))) (sym e) ∙ h)
          (λ k. or_left (has_stamp all c && u c) (list_any (λ s. has_stamp all s && u s) cs) (both (has_stamp all c) (u c) (within c (ap (λ b. has_stamp (cond b (c ∷ filter q cs) (filter q cs)) c) e ∙ or_left (same_stamp c c) (has_stamp (filter q cs) c) (stamp_own c))) k))
          (λ k. or_right (has_stamp all c && u c) (list_any (λ s. has_stamp all s && u s) cs) (others (λ s m. within s (ap (λ b. has_stamp (cond b (c ∷ filter q cs) (filter q cs)) s) e ∙ or_right (same_stamp c s) (has_stamp (filter q cs) s) m)) k))
      at others false e = or_right (has_stamp all c && u c) (list_any (λ s. has_stamp all s && u s) cs) (others (λ s m. within s (ap (λ b. has_stamp (cond b (c ∷ filter q cs) (filter q cs)) s) e ∙ m)) (ap (λ b. list_any u (cond b (c ∷ filter q cs) (filter q cs))) (sym e) ∙ h))

  any_among : (q : Stamp → Bool) (cs : List Stamp) → list_any (λ s. has_stamp (filter q cs) s && u s) cs ≡ list_any u (filter q cs)
  any_among q cs = same_value (list_any (λ s. has_stamp (filter q cs) s && u s) cs) (list_any u (filter q cs)) (any_of_these (filter q cs) cs) (any_kept q cs (filter q cs) (λ s m. m))

-- The vectors of the kept versions of a file are those of its group that are of it.

module _ (h : List Version) (known : List Copy) (group ino : ℕ) (seen : List ℕ) where
  abbrev pub file : FileId
  file = record { group = group; ino = ino }

  abbrev pub kept_of : FileId → List Stamp
  kept_of f = kept_in (of_history h) (knowing known []) f

  abbrev pub unseen_one : FileId → Stamp → Bool
  unseen_one f s = is_unseen ino seen (record { ino = f.ino; vector = vector_of h f s })

  abbrev pub is_one : Copy → Bool
  is_one v = (v.file.group == group) && has_stamp (kept_of v.file) v.stamp

  of_file : (v : Copy) → (is_one v && unseen_one v.file v.stamp) ≡ (same_file v.file file && (has_stamp (kept_of file) v.stamp && unseen_one file v.stamp))
  of_file v = same_value (is_one v && unseen_one v.file v.stamp) (same_file v.file file && (has_stamp (kept_of file) v.stamp && unseen_one file v.stamp)) there back
    where
      there : (is_one v && unseen_one v.file v.stamp) ≡ true → (same_file v.file file && (has_stamp (kept_of file) v.stamp && unseen_one file v.stamp)) ≡ true
      there e =
          let outer = both_parts (is_one v) (unseen_one v.file v.stamp) e in
          let own = both_parts (v.file.group == group) (has_stamp (kept_of v.file) v.stamp) outer.0 in
          let unseen = both_parts (v.file.ino == ino) (not (all_le (vector_of h v.file v.stamp) seen)) outer.1 in
          let is : same_file v.file file ≡ true = both (v.file.group == group) (v.file.ino == ino) own.0 unseen.0 in
          let same : v.file ≡ file = file_eq v.file file is in
          both (same_file v.file file) (has_stamp (kept_of file) v.stamp && unseen_one file v.stamp) is
          (both (has_stamp (kept_of file) v.stamp) (unseen_one file v.stamp) (ap (λ f. has_stamp (kept_of f) v.stamp) (sym same) ∙ own.1) (ap (λ f. unseen_one f v.stamp) (sym same) ∙ outer.1))

      back : (same_file v.file file && (has_stamp (kept_of file) v.stamp && unseen_one file v.stamp)) ≡ true → (is_one v && unseen_one v.file v.stamp) ≡ true
      back e =
          let outer = both_parts (same_file v.file file) (has_stamp (kept_of file) v.stamp && unseen_one file v.stamp) e in
          let inner = both_parts (has_stamp (kept_of file) v.stamp) (unseen_one file v.stamp) outer.1 in
          let same : v.file ≡ file = file_eq v.file file outer.0 in
          both (is_one v) (unseen_one v.file v.stamp)
          (both (v.file.group == group) (has_stamp (kept_of v.file) v.stamp) (both_parts (v.file.group == group) (v.file.ino == ino) outer.0).0 (ap (λ f. has_stamp (kept_of f) v.stamp) same ∙ inner.0))
          (ap (λ f. unseen_one f v.stamp) same ∙ inner.1)

  abbrev pub asks : KeptVector → Bool
  asks = is_unseen ino seen

  pub known_unseen : list_any asks (kept_vectors (of_history h) (knowing known []) group) ≡ list_any asks (vectors_of h known group ino)
  known_unseen =
      any_map asks (λ (v : Copy). record { ino = v.file.ino; vector = vector_of h v.file v.stamp }) (filter is_one known)
      ∙ any_filter (λ (v : Copy). unseen_one v.file v.stamp) is_one known
      ∙ any_same (λ v. is_one v && unseen_one v.file v.stamp) (λ v. same_file v.file file && (has_stamp (kept_of file) v.stamp && unseen_one file v.stamp)) of_file known
      ∙ sym (any_filter (λ (v : Copy). has_stamp (kept_of file) v.stamp && unseen_one file v.stamp) (λ (v : Copy). same_file v.file file) known)
      ∙ sym (any_map (λ s. has_stamp (kept_of file) s && unseen_one file s) (λ (v : Copy). v.stamp) (filter (λ (v : Copy). same_file v.file file) known))
      ∙ any_among (unseen_one file) (λ a. not (is_covered h file (candidates (knowing known []) file) a)) (candidates (knowing known []) file)
      ∙ sym (any_map asks (λ s. record { ino = ino; vector = vector_of h file s }) (kept_of file))

  -- Those of removed entries.

  abbrev pub is_removed : Entry → Bool
  is_removed e = not (is_live e) && (e.ino == ino)

  none_of_other : (other : ℕ) (f : FileId) (ss : List Stamp) → (other == ino) ≡ false → list_any asks (map (λ s. record { ino = other; vector = vector_of h f s }) ss) ≡ false
  none_of_other other f [] apart = refl
  none_of_other other f (s ∷ ss) apart = ap (λ b. (b && not (all_le (vector_of h f s) seen)) || list_any asks (map (λ s. record { ino = other; vector = vector_of h f s }) ss)) apart ∙ none_of_other other f ss apart

  own_or_none : (other : ℕ) (b : Bool) → (other == ino) ≡ b → list_any asks (vectors_of h known group other) ≡ (b && list_any asks (vectors_of h known group ino))
  own_or_none other true e = ap (λ n. list_any asks (vectors_of h known group n)) (number_eq other ino e)
  own_or_none other false e = none_of_other other (record { group = group; ino = other }) (kept_of (record { group = group; ino = other })) e

  part_of : (d : Entry) → list_any asks (cond (is_live d) [] (vectors_of h known group d.ino)) ≡ (is_removed d && list_any asks (vectors_of h known group ino))
  part_of d = at (is_live d) (own_or_none d.ino (d.ino == ino) refl)
    where
      at : (b : Bool) → list_any asks (vectors_of h known group d.ino) ≡ ((d.ino == ino) && list_any asks (vectors_of h known group ino))
          → list_any asks (cond b [] (vectors_of h known group d.ino)) ≡ ((not b && (d.ino == ino)) && list_any asks (vectors_of h known group ino))
      at true e = refl
      at false e = e

  both_of : (a b x : Bool) → ((a && x) || (b && x)) ≡ ((a || b) && x)
  both_of true true true = refl
  both_of true true false = refl
  both_of true false true = refl
  both_of true false false = refl
  both_of false b x = refl

  pub removed_unseen : (ds : List Entry) → list_any asks (vectors_removed h known group ds) ≡ (list_any is_removed ds && list_any asks (vectors_of h known group ino))
  removed_unseen [] = refl
  removed_unseen (d ∷ ds) =
      any_append asks (cond (is_live d) [] (vectors_of h known group d.ino)) (vectors_removed h known group ds)
      ∙ ap (λ b. b || list_any asks (vectors_removed h known group ds)) (part_of d)
      ∙ ap (λ b. (is_removed d && list_any asks (vectors_of h known group ino)) || b) (removed_unseen ds)
      ∙ both_of (is_removed d) (list_any is_removed ds) (list_any asks (vectors_of h known group ino))

  pub unseen_alike : (ds : List Entry) → list_any is_removed ds ≡ true → list_any asks (vectors_removed h known group ds) ≡ list_any asks (kept_vectors (of_history h) (knowing known []) group)
  unseen_alike ds there = removed_unseen ds ∙ ap (λ b. b && list_any asks (vectors_of h known group ino)) there ∙ sym known_unseen

-- What a rescue makes of all kept versions it makes of these.

module _ (h : List Version) (known : List Copy) (group : ℕ) (ds : List Entry) where
  abbrev pub all_kept : List KeptVector
  all_kept = kept_vectors (of_history h) (knowing known []) group

  abbrev pub few_kept : List KeptVector
  few_kept = vectors_removed h known group ds

  abbrev pub has_removed : ℕ → List Entry → Bool
  has_removed ino es = list_any (λ (e : Entry). not (is_live e) && (e.ino == ino)) es

  wanted_by : (d : Entry) (b : Bool) → is_live d ≡ b → (b ≡ false → has_removed d.ino ds ≡ true) → (not b && wants_rescue ds few_kept d.ino) ≡ (not b && wants_rescue ds all_kept d.ino)
  wanted_by d true e there = refl
  wanted_by d false e there = ap (λ b. not (has_live d.ino ds) && b) (unseen_alike h known group d.ino (all_seen d.ino ds) ds (there refl))

  is_there : (e : Entry) (es : List Entry) → ((ino : ℕ) → has_removed ino (e ∷ es) ≡ true → has_removed ino ds ≡ true) → is_live e ≡ false → has_removed e.ino ds ≡ true
  is_there e es within removed = within e.ino (or_left (not (is_live e) && (e.ino == e.ino)) (has_removed e.ino es) (both (not (is_live e)) (e.ino == e.ino) (ap not removed) (number_own e.ino)))

  wanted_alike : (e : Entry) (es : List Entry) → ((ino : ℕ) → has_removed ino (e ∷ es) ≡ true → has_removed ino ds ≡ true) → (not (is_live e) && wants_rescue ds few_kept e.ino) ≡ (not (is_live e) && wants_rescue ds all_kept e.ino)
  wanted_alike e es within = wanted_by e (is_live e) refl (is_there e es within)

  and_of : (a b c d : Bool) → (a && b) ≡ (a && c) → (a && (b && d)) ≡ (a && (c && d))
  and_of true b c d e = ap (λ x. x && d) e
  and_of false b c d e = refl

  later : (e : Entry) (es : List Entry) → ((ino : ℕ) → has_removed ino (e ∷ es) ≡ true → has_removed ino ds ≡ true) → (ino : ℕ) → has_removed ino es ≡ true → has_removed ino ds ≡ true
  later e es within ino k = within ino (or_right (not (is_live e) && (e.ino == ino)) (has_removed ino es) k)

  after_alike : (es : List Entry) → ((ino : ℕ) → has_removed ino es ≡ true → has_removed ino ds ≡ true) → map (entry_after_rescue ds few_kept) es ≡ map (entry_after_rescue ds all_kept) es
  after_alike [] within = refl
  after_alike (e ∷ es) within =
      ap (λ (b : Bool). cond b (revived e) e ∷ map (entry_after_rescue ds few_kept) es)
      (and_of (not (is_live e)) (wants_rescue ds few_kept e.ino) (wants_rescue ds all_kept e.ino) (is_that (chosen e.ino ds) e) (wanted_alike e es within))
      ∙ ap (λ (fs : List Entry). entry_after_rescue ds all_kept e ∷ fs) (after_alike es (later e es within))

  pub rescued_alike : rescued ds few_kept ≡ rescued ds all_kept
  rescued_alike = after_alike ds (λ ino k. k)

  any_wanted : (es : List Entry) → ((ino : ℕ) → has_removed ino es ≡ true → has_removed ino ds ≡ true) → list_any (λ (d : Entry). not (is_live d) && wants_rescue ds few_kept d.ino) es ≡ list_any (λ (d : Entry). not (is_live d) && wants_rescue ds all_kept d.ino) es
  any_wanted [] within = refl
  any_wanted (e ∷ es) within =
      ap (λ (b : Bool). b || list_any (λ (d : Entry). not (is_live d) && wants_rescue ds few_kept d.ino) es) (wanted_alike e es within)
      ∙ ap (λ (b : Bool). (not (is_live e) && wants_rescue ds all_kept e.ino) || b) (any_wanted es (later e es within))

  pub wanted_as_all : rescue_wanted ds few_kept ≡ rescue_wanted ds all_kept
  wanted_as_all = any_wanted ds (λ ino k. k)
