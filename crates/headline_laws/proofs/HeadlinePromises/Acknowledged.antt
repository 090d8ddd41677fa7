-- New once acknowledged.
use Rattle.std.proofs.Common.{◌≡◌, ℕ, ◌≤◌, ◌==◌, Bool, true, false, cond, ◌&&◌, ◌||◌, List, [], ◌∷◌, ◌++◌, map, filter, length, reverse, Option, Some, None, refl, sym, ◌∙◌, ap, subst, arith, ◌⊎◌, inl, inr}
use Rattle.std.specs.Prelude.{fold, ◌+◌}
use Rattle.std.specs.Option.{option_map}
use Rattle.std.specs.List.{find, list_all, AllByRecursion}
use Rattle.locus_ids.specs.declared.config.Config.{Config}
use Rattle.locus_ids.specs.declared.ids.EpochId.{EpochId}
use Rattle.locus_ids.specs.declared.ids.FileId.{FileId}
use Rattle.locus_ids.specs.declared.ids.Serial.{Serial}
use Rattle.locus_ids.specs.declared.ids.Stamp.{Stamp}
use Rattle.locus_ids.specs.declared.sites.Sites.{Sites}
use Rattle.commit_graph.specs.Versions.{same_file, same_stamp, is_version, is_in, is_ancestor}
use Rattle.commit_graph.specs.declared.history.Version.{Version}
use Rattle.trace_book.specs.Same.{same_epoch, same_serial}
use Rattle.trace_book.specs.declared.descriptor.Beginning.{Beginning}
use Rattle.trace_book.specs.declared.descriptor.Beginning.TheVariants as begins
use Rattle.trace_book.specs.declared.entry.Entry.{Entry}
use Rattle.trace_book.specs.declared.record.Record.{Record}
use Rattle.trace_book.specs.declared.record.Record.TheVariants as says
use Rattle.the_run.specs.Kept.{Among}
use Rattle.headline_laws.specs.Promises.Holding.{HoldsAtLeast, CommitsAreHeld}
use Rattle.tree_model.specs.declared.instance.Granted.{Granted}
use Rattle.tree_model.specs.Folds.{Trace}
use Rattle.tree_model.specs.Histories.{history, format_version, format_versions, format_stamp}
use Rattle.lawful_trace.specs.Lawful.{MayCome}
use Rattle.promises.specs.Past.{Past, Epoch, CallSoFar, Copy, nothing_yet, site_at, epoch_at, unformed, first_or, is_on}
use Rattle.promises.specs.After.{after, is_epoch}
use Rattle.promises.specs.Headline.{files_of, acknowledged_by, is_held_at_home, keeps_acknowledged, is_version as has_version}
use Rattle.past_laws.specs.Agreement.{Agrees, past, is_of_cluster, speaks_of_sites}
use Rattle.past_laws.specs.Along.{EachComesSo}
use Rattle.past_laws.proofs.Agreeing.{past_reversed, reverse_more}
use Rattle.past_laws.proofs.Alls.{all_joined}
use Rattle.past_laws.proofs.CallsGranted.{With}
use Rattle.past_laws.proofs.CallsLists.{each_more}
use Rattle.headline_laws.proofs.HeadlinePromises.GrantedOn.{granted_on, value_on}
use Rattle.past_laws.proofs.Changing.{found_any, found_passes}
use Rattle.past_laws.proofs.Sites.{of_cluster_there}
use Rattle.past_laws.proofs.Names.{none_some, some_same, false_true, both, both_parts, file_eq, file_own, stamp_eq, serial_eq, epoch_turned}

-- it is one, and the site that committed it, if one did, has it or one above it
abbrev pub is_new : Past → Copy → Bool
is_new p v = has_version p v && ((v.stamp.site == 0) || is_held_at_home p v)

-- ---- over lists ----

-- what each of some gives, put before the others
pub all_folded : {X Y : Type 0} (q : Y → Bool) (g : X → List Y) (xs : List X) (start : List Y) → list_all q start ≡ true → AllByRecursion (λ (x : X). list_all q (g x) ≡ true) xs → list_all q (fold (λ (old : List Y) (x : X). g x ++ old) start xs) ≡ true
all_folded q g [] start h k = h
all_folded q g (x ∷ xs) start h k = all_folded q g xs (g x ++ start) (all_joined q (g x) start k.0 h) k.1

pub each_so : {X : Type 0} (q : X → Bool) (xs : List X) → list_all q xs ≡ true → AllByRecursion (λ (x : X). q x ≡ true) xs
each_so q [] h = tt
each_so q (x ∷ xs) h = (let parts = both_parts (q x) (list_all q xs) h in (parts.0, each_so q xs parts.1))

-- ---- all that was acknowledged ----

abbrev pub acks : Config → Trace → List Copy
acks c [] = []
acks c (r ∷ before) = acknowledged_by (past c before) r.what ++ acks c before

abbrev known_after : Config → Past → List Copy → List Entry → List Copy
known_after c p known [] = known
known_after c p known (r ∷ rest) = known_after c (after c r.what p) (acknowledged_by p r.what ++ known) rest

known_more : (c : Config) (p : Past) (known : List Copy) (xs : List Entry) (r : Entry) → known_after c p known (xs ++ r ∷ []) ≡ acknowledged_by (fold (λ (q : Past) (x : Entry). after c x.what q) p xs) r.what ++ known_after c p known xs
known_more c p known [] r = refl
known_more c p known (x ∷ xs) r = known_more c (after c x.what p) (acknowledged_by p x.what ++ known) xs r

known_reversed : (c : Config) (trace : Trace) → known_after c (nothing_yet c) [] (reverse trace) ≡ acks c trace
known_reversed c [] = refl
known_reversed c (r ∷ before) = ap (known_after c (nothing_yet c) []) (reverse_more r before) ∙ (known_more c (nothing_yet c) [] (reverse before) r
    ∙ (ap (λ (q : Past). acknowledged_by q r.what ++ known_after c (nothing_yet c) [] (reverse before)) (past_reversed c before) ∙ ap (λ (vs : List Copy). acknowledged_by (past c before) r.what ++ vs) (known_reversed c before)))

keeps_more : (c : Config) (p : Past) (known : List Copy) (xs : List Entry) (r : Entry) → keeps_acknowledged c p known xs ≡ true → list_all (is_new (after c r.what (fold (λ (q : Past) (x : Entry). after c x.what q) p xs))) (known_after c p known (xs ++ r ∷ [])) ≡ true → keeps_acknowledged c p known (xs ++ r ∷ []) ≡ true
keeps_more c p known [] r h k = both _ true k refl
keeps_more c p known (x ∷ xs) r h k = (let parts = both_parts (list_all (is_new (after c x.what p)) (acknowledged_by p x.what ++ known)) (keeps_acknowledged c (after c x.what p) (acknowledged_by p x.what ++ known) xs) h in
    both _ _ parts.0 (keeps_more c (after c x.what p) (acknowledged_by p x.what ++ known) xs r parts.1 k))

-- so it is in printed order, where it is after each record
abbrev pub EachNew : Config → Trace → Type 0
EachNew c [] = Unit {0}
EachNew c (r ∷ before) = (list_all (is_new (past c (r ∷ before))) (acks c (r ∷ before)) ≡ true) × EachNew c before

pub keeps_reversed : (c : Config) (trace : Trace) → EachNew c trace → keeps_acknowledged c (nothing_yet c) [] (reverse trace) ≡ true
keeps_reversed c [] k = refl
keeps_reversed c (r ∷ before) k = ap (keeps_acknowledged c (nothing_yet c) []) (reverse_more r before) ∙ keeps_more c (nothing_yet c) [] (reverse before) r (keeps_reversed c before k.1)
    (ap (λ (q : Past). list_all (is_new (after c r.what q)) (known_after c (nothing_yet c) [] (reverse before ++ r ∷ []))) (past_reversed c before)
    ∙ (ap (λ (vs : List Copy). list_all (is_new (past c (r ∷ before))) vs) (ap (known_after c (nothing_yet c) []) (sym (reverse_more r before)) ∙ known_reversed c (r ∷ before)) ∙ k.0))

-- ---- versions ----

abbrev pub is_there : Config → Trace → Copy → Bool
is_there c trace v = is_in (history c trace) v.file v.stamp

-- a version stays one
pub there_more : (c : Config) (n : ℕ) (r : Record) (before : Trace) (v : Copy) → is_there c before v ≡ true → is_there c (With n r before) v ≡ true
there_more c n (says.Commit f site stamp parents content) before v h = over (same_file f v.file && same_stamp stamp v.stamp)
  where
    over : (b : Bool) → (b || is_there c before v) ≡ true
    over true = refl
    over false = h
there_more c n _ before v h = h

-- it is a commit of its site, or of no site
abbrev IsCommit : Trace → Copy → Type 0
IsCommit trace v = (line : ℕ) × (parents : List Stamp) × (content : List ℕ) × Among (record { line = line; what = says.Commit v.file v.stamp.site v.stamp parents content }) trace

format_site : (k : ℕ) (packs : List Sites) (v : Copy) → is_in (format_versions k packs) v.file v.stamp ≡ true → (v.stamp.site == 0) ≡ true
format_site k [] v h = false_true h
format_site k (set ∷ packs) v h = over (set.0 == 0) (format_site (k + 1) packs v) h
  where
    own : (a b : Bool) → (a && b) ≡ true → (b ≡ true → (v.stamp.site == 0) ≡ true) → (v.stamp.site == 0) ≡ true
    own true true h f = f refl
    own true false h f = false_true h
    own false b h f = false_true h

    at : (b : Bool) → is_version v.file v.stamp (format_version k) ≡ b → (is_in (format_versions (k + 1) packs) v.file v.stamp ≡ true → (v.stamp.site == 0) ≡ true) → (b || is_in (format_versions (k + 1) packs) v.file v.stamp) ≡ true → (v.stamp.site == 0) ≡ true
    at true e later m = own (same_file (format_version k).file v.file) (same_stamp format_stamp v.stamp) e (λ g. subst (λ (s : Stamp). (s.site == 0) ≡ true) (stamp_eq format_stamp v.stamp g) refl)
    at false e later m = later m

    over : (b : Bool) → (is_in (format_versions (k + 1) packs) v.file v.stamp ≡ true → (v.stamp.site == 0) ≡ true) → is_in (cond b (format_versions (k + 1) packs) (format_version k ∷ format_versions (k + 1) packs)) v.file v.stamp ≡ true → (v.stamp.site == 0) ≡ true
    over true later m = later m
    over false later m = at (is_version v.file v.stamp (format_version k)) refl later m

more_commit : (n : ℕ) (r : Record) (before : Trace) (v : Copy) → ((v.stamp.site == 0) ≡ true) ⊎ IsCommit before v → ((v.stamp.site == 0) ≡ true) ⊎ IsCommit (With n r before) v
more_commit n r before v (inl h) = inl h
more_commit n r before v (inr k) = inr (k.0, k.1, k.2, inr k.3)

made_by : (c : Config) (n : ℕ) (r : Record) (before : Trace) (v : Copy) → MayCome c before r → (is_there c before v ≡ true → ((v.stamp.site == 0) ≡ true) ⊎ IsCommit before v) → is_there c (With n r before) v ≡ true → ((v.stamp.site == 0) ≡ true) ⊎ IsCommit (With n r before) v
made_by c n (says.Commit f site stamp parents content) before v may later h = over (same_file f v.file) (same_stamp stamp v.stamp) refl refl h
  where
    site_is : stamp.site ≡ site
    site_is = ap (λ (s : Stamp). s.site) may.numbered

    same_commit : (g f : FileId) (s z : ℕ) (t u : Stamp) → g ≡ f → s ≡ z → t ≡ u → says.Commit g s t parents content ≡ says.Commit f z u parents content
    same_commit g f s z t u a b d = λ i. says.Commit (a i) (b i) (d i) parents content

    over : (a b : Bool) → same_file f v.file ≡ a → same_stamp stamp v.stamp ≡ b → ((a && b) || is_there c before v) ≡ true → ((v.stamp.site == 0) ≡ true) ⊎ IsCommit (With n (says.Commit f site stamp parents content) before) v
    over true true p q m = inr (n, parents, content, inl (ap (λ (w : Record). record { line = n; what = w }) (same_commit v.file f v.stamp.site site v.stamp stamp (sym (file_eq f v.file p)) (ap (λ (s : Stamp). s.site) (sym (stamp_eq stamp v.stamp q)) ∙ site_is) (sym (stamp_eq stamp v.stamp q)))))
    over true false p q m = more_commit n (says.Commit f site stamp parents content) before v (later m)
    over false b p q m = more_commit n (says.Commit f site stamp parents content) before v (later m)
made_by c n r before v may later h = more_commit n r before v (later h)

was_made : (c : Config) (trace : Trace) → EachComesSo c trace → (v : Copy) → is_there c trace v ≡ true → ((v.stamp.site == 0) ≡ true) ⊎ IsCommit trace v
was_made c [] k v h = inl (format_site 0 c.packs v h)
was_made c (r ∷ before) k v h = made_by c r.line r.what before v k.0.row (was_made c before k.1 v) h

-- its site is one of the cluster
commit_site : (c : Config) (trace : Trace) → EachComesSo c trace → (v : Copy) → IsCommit trace v → is_of_cluster c v.stamp.site ≡ true
commit_site c [] k v m = absurd m.3
commit_site c (r ∷ before) k v m = at (λ b. commit_site c before k.1 v (m.0, m.1, m.2, b)) m.3
  where
    at : (Among (record { line = m.0; what = says.Commit v.file v.stamp.site v.stamp m.1 m.2 }) before → is_of_cluster c v.stamp.site ≡ true)
        → (record { line = m.0; what = says.Commit v.file v.stamp.site v.stamp m.1 m.2 } ≡ r) ⊎ Among (record { line = m.0; what = says.Commit v.file v.stamp.site v.stamp m.1 m.2 }) before → is_of_cluster c v.stamp.site ≡ true
    at later (inl same) = subst (λ (x : Entry). speaks_of_sites c x.what ≡ true) (sym same) k.0.sites
    at later (inr b) = later b

-- the site has a version above it, by both
held_home : (c : Config) (trace : Trace) (p : Past) → Agrees c trace p → (v : Copy) → is_of_cluster c v.stamp.site ≡ true → HoldsAtLeast c trace v.stamp.site v.file v.stamp → is_held_at_home p v ≡ true
held_home c trace p a v ours h = at (find (λ (w : Copy). same_file w.file v.file) (site_at p v.stamp.site).held) refl (a.sites.held v.stamp.site (of_cluster_there c p.sites v.stamp.site a.sites.numbers ours) v.file ∙ h.held)
  where
    at : (o : Option Copy) → find (λ (w : Copy). same_file w.file v.file) (site_at p v.stamp.site).held ≡ o → option_map (λ (w : Copy). w.stamp) (find (λ (w : Copy). same_file w.file v.file) (site_at p v.stamp.site).held) ≡ Some h.holds → is_held_at_home p v ≡ true
    at None f g = none_some h.holds (ap (option_map (λ (w : Copy). w.stamp)) (sym f) ∙ g)
    at (Some w) f g = found_any (λ (x : Copy). same_file x.file v.file) (λ (x : Copy). same_file x.file v.file && is_ancestor p.history v.file v.stamp x.stamp) (site_at p v.stamp.site).held w f
        (both (same_file w.file v.file) _ (found_passes (λ (x : Copy). same_file x.file v.file) (site_at p v.stamp.site).held w f)
        (ap (λ (hs : List Version). is_ancestor hs v.file v.stamp w.stamp) a.epochs.history ∙ (ap (is_ancestor (history c trace) v.file v.stamp) (some_same w.stamp h.holds (ap (option_map (λ (x : Copy). x.stamp)) (sym f) ∙ g)) ∙ h.above)))

or_last : (b d : Bool) → d ≡ true → (b || d) ≡ true
or_last true d e = refl
or_last false d e = e

-- where each commit is held by its site, a version that is there is new
pub there_new : (c : Config) (trace : Trace) (p : Past) → EachComesSo c trace → Agrees c trace p → CommitsAreHeld c trace → (v : Copy) → is_there c trace v ≡ true → is_new p v ≡ true
there_new c trace p k a held v h = both (has_version p v) _ (ap (λ (hs : List Version). is_in hs v.file v.stamp) a.epochs.history ∙ h) (at (was_made c trace k v h))
  where
    at : ((v.stamp.site == 0) ≡ true) ⊎ IsCommit trace v → ((v.stamp.site == 0) || is_held_at_home p v) ≡ true
    at (inl z) = ap (λ (b : Bool). b || is_held_at_home p v) z
    at (inr m) = (let home : is_held_at_home p v ≡ true = held_home c trace p a v (commit_site c trace k v m) (held m.0 v.stamp.site v.file v.stamp m.1 m.2 m.3) in or_last (v.stamp.site == 0) (is_held_at_home p v) home)

-- ---- what a reply acknowledges ----

-- the epochs of which one at most has the id
none_of : (e : EpochId) (ts : List Epoch) → filter (is_epoch e) ts ≡ [] → (R : Epoch → Type 0) → AllByRecursion (λ (t : Epoch). is_epoch e t ≡ true → R t) ts
none_of e [] h R = tt
none_of e (t ∷ ts) h R = over (none_of e ts) (is_epoch e t) refl h
  where
    filled : {A : Type 0} {us : List Epoch} → ◌≡◌ {A = List Epoch} (t ∷ us) [] → A
    filled q = absurd (cc)

    over : (filter (is_epoch e) ts ≡ [] → (R : Epoch → Type 0) → AllByRecursion (λ (u : Epoch). is_epoch e u ≡ true → R u) ts) → (b : Bool) → is_epoch e t ≡ b → cond b (t ∷ filter (is_epoch e) ts) (filter (is_epoch e) ts) ≡ [] → (is_epoch e t ≡ true → R t) × AllByRecursion (λ (u : Epoch). is_epoch e u ≡ true → R u) ts
    over later true f g = filled g
    over later false f g = (λ k. false_true (sym f ∙ k), later g R)

one_of : (e : EpochId) (R : Epoch → Type 0) (ts : List Epoch) → length (filter (is_epoch e) ts) ≤ 1 → R (first_or (unformed e) (is_epoch e) ts) → AllByRecursion (λ (t : Epoch). is_epoch e t ≡ true → R t) ts
one_of e R [] few h = tt
one_of e R (t ∷ ts) few h = over (one_of e R ts) (is_epoch e t) refl few h
  where
    empty : (us : List Epoch) → length (t ∷ us) ≤ 1 → us ≡ []
    empty [] g = refl
    empty (u ∷ us) g = absurd (omega (arith, g))

    over : (length (filter (is_epoch e) ts) ≤ 1 → R (first_or (unformed e) (is_epoch e) ts) → AllByRecursion (λ (u : Epoch). is_epoch e u ≡ true → R u) ts) → (b : Bool) → is_epoch e t ≡ b → length (cond b (t ∷ filter (is_epoch e) ts) (filter (is_epoch e) ts)) ≤ 1 → R (cond b t (first_or (unformed e) (is_epoch e) ts))
        → (is_epoch e t ≡ true → R t) × AllByRecursion (λ (u : Epoch). is_epoch e u ≡ true → R u) ts
    over later true f g k = (λ q. k, none_of e ts (empty (filter (is_epoch e) ts) g) R)
    over later false f g k = (λ q. false_true (sym f ∙ q), later g k)

-- the grants of an instance are on its file
on_file : (f : FileId) (b : Beginning) (e : EpochId) (i : Serial) (at : EpochId) (gs : List Granted) → b ≡ begins.Uses e i → AllByRecursion (λ (g : Granted). same_serial i g.inst ≡ true → g.file ≡ f) gs
    → list_all (λ (x : FileId). same_file x f) (map (λ (g : Granted). g.file) (filter (λ (g : Granted). is_on b at g.inst) gs)) ≡ true
on_file f b e i at [] h k = refl
on_file f b e i at (g ∷ gs) h k = over (is_on b at g.inst) refl (on_file f b e i at gs h k.1)
  where
    used : is_on b at g.inst ≡ true → same_serial i g.inst ≡ true
    used m = (both_parts (same_epoch e at) (same_serial i g.inst) (ap (λ (y : Beginning). is_on y at g.inst) (sym h) ∙ m)).1

    over : (v : Bool) → is_on b at g.inst ≡ v → list_all (λ (x : FileId). same_file x f) (map (λ (y : Granted). y.file) (filter (λ (y : Granted). is_on b at y.inst) gs)) ≡ true
        → list_all (λ (x : FileId). same_file x f) (map (λ (y : Granted). y.file) (cond v (g ∷ filter (λ (y : Granted). is_on b at y.inst) gs) (filter (λ (y : Granted). is_on b at y.inst) gs))) ≡ true
    over true m later = both (same_file g.file f) _ (subst (λ (x : FileId). same_file x f ≡ true) (sym (k.0 (used m))) (file_own f)) later
    over false m later = later

-- an epoch of another id has none
off_file : (f : FileId) (b : Beginning) (e : EpochId) (i : Serial) (at : EpochId) (gs : List Granted) → b ≡ begins.Uses e i → same_epoch e at ≡ false → list_all (λ (x : FileId). same_file x f) (map (λ (g : Granted). g.file) (filter (λ (g : Granted). is_on b at g.inst) gs)) ≡ true
off_file f b e i at [] h k = refl
off_file f b e i at (g ∷ gs) h k = ap (λ (v : Bool). list_all (λ (x : FileId). same_file x f) (map (λ (y : Granted). y.file) (cond v (g ∷ filter (λ (y : Granted). is_on b at y.inst) gs) (filter (λ (y : Granted). is_on b at y.inst) gs)))) not_on ∙ off_file f b e i at gs h k
  where
    not_on : is_on b at g.inst ≡ false
    not_on = ap (λ (y : Beginning). is_on y at g.inst) h ∙ ap (λ (v : Bool). v && same_serial i g.inst) k

-- so each file that the call works on is that one
pub files_are : (c : Config) (before : Trace) (p : Past) → EachComesSo c before → Agrees c before p → (k : CallSoFar) (e : EpochId) (i : Serial) (f : FileId) → k.begins ≡ begins.Uses e i → granted_on before e i ≡ Some f → list_all (λ (x : FileId). same_file x f) (files_of p k) ≡ true
files_are c before p so a k e i f h g = all_folded (λ (x : FileId). same_file x f) (λ (t : Epoch). map (λ (y : Granted). y.file) (filter (λ (y : Granted). is_on k.begins t.id y.inst) t.granted)) p.epochs [] refl
    (each_more (λ (t : Epoch). is_epoch e t ≡ true → AllByRecursion (λ (y : Granted). same_serial i y.inst ≡ true → y.file ≡ f) t.granted) (λ (t : Epoch). list_all (λ (x : FileId). same_file x f) (map (λ (y : Granted). y.file) (filter (λ (y : Granted). is_on k.begins t.id y.inst) t.granted)) ≡ true) one p.epochs
    (one_of e (λ (t : Epoch). AllByRecursion (λ (y : Granted). same_serial i y.inst ≡ true → y.file ≡ f) t.granted) p.epochs (a.epochs.once e)
    (each_more (λ (y : Granted). granted_on before e y.inst ≡ Some y.file) (λ (y : Granted). same_serial i y.inst ≡ true → y.file ≡ f) (λ y m q. some_same y.file f (sym m ∙ (ap (granted_on before e) (sym (serial_eq i y.inst q)) ∙ g))) (epoch_at p e).granted (value_on c before p so a e))))
  where
    one : (t : Epoch) → (is_epoch e t ≡ true → AllByRecursion (λ (y : Granted). same_serial i y.inst ≡ true → y.file ≡ f) t.granted) → list_all (λ (x : FileId). same_file x f) (map (λ (y : Granted). y.file) (filter (λ (y : Granted). is_on k.begins t.id y.inst) t.granted)) ≡ true
    one t m = over (is_epoch e t) refl
      where
        over : (b : Bool) → is_epoch e t ≡ b → list_all (λ (x : FileId). same_file x f) (map (λ (y : Granted). y.file) (filter (λ (y : Granted). is_on k.begins t.id y.inst) t.granted)) ≡ true
        over true q = on_file f k.begins e i t.id t.granted h (m q)
        over false q = off_file f k.begins e i t.id t.granted h (epoch_turned e t.id ∙ q)
