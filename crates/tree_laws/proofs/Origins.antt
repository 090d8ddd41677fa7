-- A file that has a version has a first call that made it, or is a root; so its kind and its set are told for good.
use Rattle.std.proofs.Common.{◌≡◌, ℕ, ◌+◌, ◌==◌, Bool, true, false, not, cond, ◌&&◌, ◌||◌, List, [], ◌∷◌, ◌++◌, filter, Option, Some, None, refl, sym, ◌∙◌, ap, subst, arith, ◌⊎◌, inl, inr}
use Rattle.std.specs.List.{find}
use Rattle.std.specs.Option.{option_map, option_or}
use Rattle.std.proofs.lemmas.Bool.Decides.{nat_tests}
use Rattle.the_run.proofs.of_plain_facts.Numbers.{equal_test}
use Rattle.the_run.proofs.of_plain_facts.Options.{none_some, some_same}
use Rattle.the_run.proofs.of_plain_facts.Tests.{true_false}
use Rattle.locus_ids.specs.declared.config.Config.{Config}
use Rattle.locus_ids.specs.declared.ids.CallId.{CallId}
use Rattle.locus_ids.specs.declared.ids.EpochId.{EpochId}
use Rattle.locus_ids.specs.declared.ids.FileId.{FileId}
use Rattle.locus_ids.specs.declared.ids.Kind.TheVariants.{Dir}
use Rattle.locus_ids.specs.declared.ids.Stamp.{Stamp}
use Rattle.locus_ids.specs.declared.sites.Sites.{Sites}
use Rattle.commit_graph.specs.Grants.{is_read}
use Rattle.commit_graph.specs.Versions.{same_file, is_version, is_in}
use Rattle.commit_graph.specs.declared.history.Version.{Version}
use Rattle.trace_book.specs.Same.{same_epoch}
use Rattle.trace_book.specs.declared.call.Call.{Call}
use Rattle.trace_book.specs.declared.record.Record.{Record}
use Rattle.trace_book.specs.declared.record.Record.TheVariants as says
use Rattle.the_run.specs.of_role_steps.Own.{Every}
use Rattle.the_run.specs.of_role_steps.Views.{Told, Shown}
use Rattle.the_run.specs.Worlds.{Line}
use Rattle.lawful_trace.specs.of_tree_model.declared.accepted.Waiting.{Waiting}
use Rattle.lawful_trace.specs.of_tree_model.declared.instance.Granted.{Granted}
use Rattle.lawful_trace.specs.of_tree_model.declared.instance.Instance.{Instance}
use Rattle.lawful_trace.specs.of_tree_model.Files.{first_call, committing, committing_in, words_named, kind_made, kind_of_file, set_of_file}
use Rattle.lawful_trace.specs.of_tree_model.Folds.{Trace}
use Rattle.lawful_trace.specs.of_tree_model.Histories.{history, format_versions, format_version}
use Rattle.lawful_trace.specs.of_tree_model.Lists.{change_first}
use Rattle.lawful_trace.specs.of_tree_model.Opening.{sites_made}
use Rattle.lawful_trace.specs.of_tree_model.Packs.{packs_of}
use Rattle.lawful_trace.specs.of_tree_model.State.{TreeState, is_named, is_writer, is_inside, is_granted_here, is_make}
use Rattle.lawful_trace.specs.of_tree_model.Tree.{next, tree_of, joined, left, grant_of, opened, once_committed, once_acted, acted, released, without_make}
use Rattle.lawful_trace.specs.TreeRows.{is_writing}
use Rattle.tree_laws.specs.Printed.{entries, onto_entries}
use Rattle.tree_laws.specs.Following.{MayTell, IsFollowed}
use Rattle.tree_laws.specs.Instances.{Stands}
use Rattle.tree_laws.proofs.Fresh.{IsNamed}
use Rattle.tree_laws.proofs.Owing.{every_added, every_changed, every_left, found_every}
use Rattle.tree_laws.proofs.Scripts.{named_stays}

every_weaker : {A : Type 0} (P Q : A → Type 0) (xs : List A) → ((x : A) → P x → Q x) → Every P xs → Every Q xs
every_weaker P Q [] f h = tt
every_weaker P Q (x ∷ xs) f h = (f x h.0, every_weaker P Q xs f h.1)

-- ---- what is open was granted to an accepted call ----

abbrev HasCall : Trace → Instance → Type 0
HasCall before x = IsNamed before x.grant.call

named_more : (c : Config) (n : ℕ) (x : Told) (older : List Line) (d : CallId) → IsFollowed c older → MayTell c older x → IsNamed (entries older) d → IsNamed (onto_entries n x (entries older)) d
named_more c n x older d h may k = (k.0, named_stays c n x older d h may k ∙ k.1)

-- by the calls of before the record, but for a grant of an accepted call
called_record : (h : List Version) (r : Record) (t : TreeState) (P : Instance → Type 0) → ((x y : Instance) → x.grant ≡ y.grant → P x → P y) →
    ((e : EpochId) (call : CallId) (request : ℕ) (i : _) (m : _) (f : FileId) (stamp : Option Stamp) (ss : ℕ) → r ≡ says.Grant e call request i m f stamp ss → P (opened h (grant_of t call i m f ss) stamp)) → Every P t.instances → Every P (next h r t).instances
called_record h (says.Join s e m) t P same new k = over (same_epoch e t.epoch)
  where
    over : (b : Bool) → Every P (cond b (joined s m t) (left s t)).instances
    over true = k
    over false = k
called_record h (says.Start e group copies) t P same new k = over (same_epoch e t.epoch && (group == t.group))
  where
    over : (b : Bool) → Every P (cond b (record t { started = true }) t).instances
    over true = k
    over false = k
called_record h (says.Refuse e call request i m f why) t P same new k = over (same_epoch e t.epoch && ((f.group == t.group) && is_make m))
  where
    over : (b : Bool) → Every P (cond b (record t { makes = without_make call t.makes }) t).instances
    over true = k
    over false = k
called_record h (says.Grant e call request i m f stamp ss) t P same new k = over (same_epoch e t.epoch) (f.group == t.group)
  where
    g : Granted
    g = grant_of t call i m f ss

    over : (a b : Bool) → Every P (cond a (record t { grants = t.grants ++ g ∷ []; instances = cond b (t.instances ++ opened h g stamp ∷ []) t.instances }) t).instances
    over true true = every_added P t.instances (opened h g stamp) k (new e call request i m f stamp ss refl)
    over true false = k
    over false b = k
called_record h (says.Act e i n o result) t P same new k = over (same_epoch e t.epoch && is_granted_here t i)
  where
    over : (b : Bool) → Every P (cond b (acted h i o result t) t).instances
    over true = every_changed P (is_named i) (once_acted h t o result) (λ x p. same x (once_acted h t o result x) refl p) t.instances k
    over false = k
called_record h (says.Commit f s stamp parents content) t P same new k = over (is_inside t s)
  where
    over : (b : Bool) → Every P (cond b (change_first (is_writer f s) (once_committed stamp) t.instances) t.instances)
    over true = every_changed P (is_writer f s) (once_committed stamp) (λ x p. same x (once_committed stamp x) refl p) t.instances k
    over false = k
called_record h (says.Release e i f stamp) t P same new k = over (same_epoch e t.epoch && (f.group == t.group))
  where
    over : (b : Bool) → Every P (cond b (released i f stamp t) t).instances
    over true = every_left P (is_named i) t.instances k
    over false = k
called_record h _ t P same new k = k

granted_call : (c : Config) (older : List Line) (r : Record) → MayTell c older (Shown r) → (h : List Version) (t : TreeState) (e : EpochId) (call : CallId) (request : ℕ) (i : _) (m : _) (f : FileId) (stamp : Option Stamp) (ss : ℕ) → r ≡ says.Grant e call request i m f stamp ss → IsNamed (entries older) call
granted_call c older r may h t e call request i m f stamp ss is = (let k : MayTell c older (Shown (says.Grant e call request i m f stamp ss)) = subst (λ (y : Record). MayTell c older (Shown y)) is may in (k.row.opens.step.accepted, k.row.opens.step.named))

calls_open : (c : Config) (e : EpochId) (g : ℕ) (trace : List Line) → IsFollowed c trace → Every (HasCall (entries trace)) (tree_of c e g (entries trace)).instances
calls_open c e g [] h = tt
calls_open c e g (y ∷ older) h = over (calls_open c e g older h.1) y.told h.0
  where
    over : Every (HasCall (entries older)) (tree_of c e g (entries older)).instances → (x : Told) → MayTell c older x → Every (HasCall (onto_entries y.number x (entries older))) (tree_of c e g (onto_entries y.number x (entries older))).instances
    over k (Shown r) may = every_weaker (HasCall (entries older)) (HasCall (record { line = y.number; what = r } ∷ entries older)) (next (history c (entries older)) r (tree_of c e g (entries older))).instances (λ x p. named_more c y.number (Shown r) older x.grant.call h.1 may p)
        (called_record (history c (entries older)) r (tree_of c e g (entries older)) (HasCall (entries older)) (λ a b same p. subst (λ (q : Granted). IsNamed (entries older) q.call) same p)
        (λ at call request i m f stamp ss is. granted_call c older r may (history c (entries older)) (tree_of c e g (entries older)) at call request i m f stamp ss is) k)
    over k _ may = k

-- ---- who may commit is found ----

filter_head : {A : Type 0} (q : A → Bool) (xs : List A) (y : A) → filter q xs ≡ y ∷ [] → q y ≡ true
filter_head q [] y e = absurd (empty e)
  where
    empty : {A : Type 0} {y : A} → ◌≡◌ {A = List A} [] (y ∷ []) → ⊥
    empty e = cc
filter_head q (x ∷ xs) y e = at (filter_head q xs y) (q x) refl e
  where
    first_is : {A : Type 0} (a b : A) (rest : List A) → a ∷ rest ≡ b ∷ [] → a ≡ b
    first_is a b rest e = cc

    at : (filter q xs ≡ y ∷ [] → q y ≡ true) → (b : Bool) → q x ≡ b → cond b (x ∷ filter q xs) (filter q xs) ≡ y ∷ [] → q y ≡ true
    at later true k e = subst (λ (z : _). q z ≡ true) (first_is x y (filter q xs) e) k
    at later false k e = later e

filter_found : {A : Type 0} (p q : A → Bool) (xs : List A) (y : A) → filter q xs ≡ y ∷ [] → p y ≡ true → (z : A) × (find p xs ≡ Some z)
filter_found p q [] y e h = absurd (empty e)
  where
    empty : {A : Type 0} {y : A} → ◌≡◌ {A = List A} [] (y ∷ []) → ⊥
    empty e = cc
filter_found {A} p q (x ∷ xs) y e h = at (filter_found p q xs y) (p x) (q x) refl e
  where
    first_is : {A : Type 0} (a b : A) (rest : List A) → a ∷ rest ≡ b ∷ [] → a ≡ b
    first_is a b rest e = cc

    at : (filter q xs ≡ y ∷ [] → p y ≡ true → (z : A) × (find p xs ≡ Some z)) → (a b : Bool) → p x ≡ a → cond b (x ∷ filter q xs) (filter q xs) ≡ y ∷ [] → (z : A) × (cond a (Some x) (find p xs) ≡ Some z)
    at later true b k e = (x, refl)
    at later false true k e = absurd (true_false (sym (subst (λ (z : A). p z ≡ true) (sym (first_is x y (filter q xs) e)) h) ∙ k))
    at later false false k e = later e h

writes_there : (f : FileId) (s : ℕ) (x : Instance) → is_writing f x ≡ true → x.grant.ss ≡ s → is_writer f s x ≡ true
writes_there f s x h e = over (same_file x.grant.file f) (x.grant.ss == s) (not (is_read x.grant.mode)) h (equal_test x.grant.ss s e)
  where
    over : (a b d : Bool) → a && d ≡ true → b ≡ true → a && (b && d) ≡ true
    over true true d k t = k
    over true false d k t = absurd (true_false (sym t))
    over false b d k t = k

-- the instance by which a lawful commit is made is found, and its call was accepted
committer : (c : Config) (older : List Line) (f : FileId) (site : ℕ) (stamp : Stamp) (parents : List Stamp) (content : List ℕ) → IsFollowed c older → MayTell c older (Shown (says.Commit f site stamp parents content)) → (x : Instance) × (committing c (entries older) f site ≡ Some x) × IsNamed (entries older) x.grant.call
committer c older f site stamp parents content h may = (found.0, ap (committing_in c (entries older) f site) may.row.inside ∙ found.1, found_every (HasCall (entries older)) (is_writer f site) xs found.0 found.1 (calls_open c may.row.epoch f.group older h))
  where
    xs : List Instance
    xs = (tree_of c may.row.epoch f.group (entries older)).instances

    found : (x : Instance) × (find (is_writer f site) xs ≡ Some x)
    found = filter_found (is_writer f site) (is_writing f) xs may.row.instance may.row.one (writes_there f site may.row.instance (filter_head (is_writing f) xs may.row.instance may.row.one) may.row.at)

-- ---- the first call of a file ----

abbrev HasFirst : Config → Trace → FileId → Type 0
HasFirst c before f = (d : CallId) × (first_call c before f ≡ Some d) × IsNamed before d

-- a file that stands is a root, or has a first call
abbrev Rooted : Config → Trace → FileId → Type 0
Rooted c before f = (f.ino ≡ 1) ⊎ HasFirst c before f

first_same : (c : Config) (n : ℕ) (r : Record) (before : Trace) (f : FileId) (d : CallId) → first_call c before f ≡ Some d → first_call c (record { line = n; what = r } ∷ before) f ≡ Some d
first_same c n (says.Commit g site stamp parents content) before f d e = ap (λ (o : Option CallId). option_or o (cond (same_file g f) (option_map (λ (x : Instance). x.grant.call) (committing c before f site)) None)) e
first_same c n _ before f d e = e

first_more : (c : Config) (n : ℕ) (r : Record) (older : List Line) (f : FileId) → IsFollowed c older → MayTell c older (Shown r) → HasFirst c (entries older) f → HasFirst c (record { line = n; what = r } ∷ entries older) f
first_more c n r older f h may k = (k.0, first_same c n r (entries older) f k.0 k.1, named_more c n (Shown r) older k.0 h may k.2)

-- what a commit makes has a first call
first_new : (c : Config) (n : ℕ) (older : List Line) (g f : FileId) (site : ℕ) (stamp : Stamp) (parents : List Stamp) (content : List ℕ) → IsFollowed c older → MayTell c older (Shown (says.Commit g site stamp parents content)) → g ≡ f → same_file g f ≡ true →
    ((d : CallId) → first_call c (entries older) f ≡ Some d → IsNamed (entries older) d) → HasFirst c (record { line = n; what = says.Commit g site stamp parents content } ∷ entries older) f
first_new c n older g f site stamp parents content h may same test firsts = over (first_call c (entries older) f) refl
  where
    made : (x : Instance) × (committing c (entries older) f site ≡ Some x) × IsNamed (entries older) x.grant.call
    made = subst (λ (y : FileId). (x : Instance) × (committing c (entries older) y site ≡ Some x) × IsNamed (entries older) x.grant.call) same (committer c older g site stamp parents content h may)

    new : option_map (λ (x : Instance). x.grant.call) (committing c (entries older) f site) ≡ Some made.0.grant.call
    new = ap (option_map (λ (x : Instance). x.grant.call)) made.1

    over : (o : Option CallId) → first_call c (entries older) f ≡ o → HasFirst c (record { line = n; what = says.Commit g site stamp parents content } ∷ entries older) f
    over None e = (made.0.grant.call, ap (λ (o : Option CallId). option_or o (cond (same_file g f) (option_map (λ (x : Instance). x.grant.call) (committing c (entries older) f site)) None)) e ∙ (ap (λ (b : Bool). cond b (option_map (λ (x : Instance). x.grant.call) (committing c (entries older) f site)) None) test ∙ new), named_more c n (Shown (says.Commit g site stamp parents content)) older made.0.grant.call h may made.2)
    over (Some d) e = (d, ap (λ (o : Option CallId). option_or o (cond (same_file g f) (option_map (λ (x : Instance). x.grant.call) (committing c (entries older) f site)) None)) e, named_more c n (Shown (says.Commit g site stamp parents content)) older d h may (firsts d e))

record Originated (c : Config) (t : List Line) : Type 0 where
  firsts : (f : FileId) (d : CallId) → first_call c (entries t) f ≡ Some d → IsNamed (entries t) d
  stands : (f : FileId) (s : Stamp) → Stands c t f s → Rooted c (entries t) f

file_eq : (a b : FileId) → same_file a b ≡ true → a ≡ b
file_eq a b h = id_eq (grind (arith, nat_tests)) (grind (arith, nat_tests))
  where
    id_eq : a.group ≡ b.group → a.ino ≡ b.ino → a ≡ b
    id_eq e f = λ i. record { group = e i; ino = f i }

originated_record : (c : Config) (n : ℕ) (r : Record) (older : List Line) → IsFollowed c older → MayTell c older (Shown r) → Originated c older → Originated c (record { number = n; told = Shown r } ∷ older)
originated_record c n (says.Commit g site stamp parents content) older h may o = record { firsts = λ f d. firsts f d (same_file g f) refl; stands = λ f s. stands f s (is_version f s v) refl }
  where
    x : Told
    x = Shown (says.Commit g site stamp parents content)

    v : Version
    v = record { file = g; site = site; stamp = stamp; parents = parents; content = content }

    has : (f : FileId) → same_file g f ≡ true → HasFirst c (record { line = n; what = says.Commit g site stamp parents content } ∷ entries older) f
    has f e = first_new c n older g f site stamp parents content h may (file_eq g f e) e (o.firsts f)

    firsts : (f : FileId) (d : CallId) (b : Bool) → same_file g f ≡ b → first_call c (record { line = n; what = says.Commit g site stamp parents content } ∷ entries older) f ≡ Some d → IsNamed (record { line = n; what = says.Commit g site stamp parents content } ∷ entries older) d
    firsts f d true e k = (let p : HasFirst c (record { line = n; what = says.Commit g site stamp parents content } ∷ entries older) f = has f e in subst (IsNamed (record { line = n; what = says.Commit g site stamp parents content } ∷ entries older)) (some_same p.0 d (sym p.1 ∙ k)) p.2)
    firsts f d false e k = old (first_call c (entries older) f) refl (sym (ap (λ (b : Bool). option_or (first_call c (entries older) f) (cond b (option_map (λ (y : Instance). y.grant.call) (committing c (entries older) f site)) None)) e) ∙ k)
      where
        old : (q : Option CallId) → first_call c (entries older) f ≡ q → option_or (first_call c (entries older) f) None ≡ Some d → IsNamed (record { line = n; what = says.Commit g site stamp parents content } ∷ entries older) d
        old None e k = absurd (none_some d (sym (ap (λ (q : Option CallId). option_or q None) e) ∙ k))
        old (Some d0) e k = named_more c n x older d h may (o.firsts f d (e ∙ (sym (ap (λ (q : Option CallId). option_or q None) e) ∙ k)))

    file_of : (f : FileId) (s : Stamp) → is_version f s v ≡ true → same_file g f ≡ true
    file_of f s e = grind (arith, nat_tests)

    lift : (f : FileId) → Rooted c (entries older) f → Rooted c (record { line = n; what = says.Commit g site stamp parents content } ∷ entries older) f
    lift f (inl e) = inl e
    lift f (inr k) = inr (first_more c n (says.Commit g site stamp parents content) older f h may k)

    stands : (f : FileId) (s : Stamp) (b : Bool) → is_version f s v ≡ b → (b || is_in (history c (entries older)) f s) ≡ true → Rooted c (record { line = n; what = says.Commit g site stamp parents content } ∷ entries older) f
    stands f s true e k = inr (has f (file_of f s e))
    stands f s false e k = lift f (o.stands f s k)
originated_record c n r older h may o = record { firsts = λ f d k. named_more c n (Shown r) older d h may (o.firsts f d k); stands = λ f s k. lift f (o.stands f s k) }
  where
    lift : (f : FileId) → Rooted c (entries older) f → Rooted c (record { line = n; what = r } ∷ entries older) f
    lift f (inl e) = inl e
    lift f (inr k) = inr (first_more c n r older f h may k)

originated_told : (c : Config) (n : ℕ) (x : Told) (older : List Line) → IsFollowed c older → MayTell c older x → Originated c older → Originated c (record { number = n; told = x } ∷ older)
originated_told c n (Shown r) older h may o = originated_record c n r older h may o
originated_told c n _ older h may o = record { firsts = o.firsts; stands = o.stands }

-- before the first record roots alone stand
format_root : (f : FileId) (s : Stamp) (group : ℕ) (packs : List Sites) → is_in (format_versions group packs) f s ≡ true → f.ino ≡ 1
format_root f s group [] h = absurd (true_false (sym h))
format_root f s group (p ∷ rest) h = at (format_root f s (group + 1) rest) (p.0 == 0) h
  where
    root : is_version f s (format_version group) ≡ true → f.ino ≡ 1
    root e = grind (arith, nat_tests)

    either : (is_in (format_versions (group + 1) rest) f s ≡ true → f.ino ≡ 1) → (b : Bool) → is_version f s (format_version group) ≡ b → (b || is_in (format_versions (group + 1) rest) f s) ≡ true → f.ino ≡ 1
    either later true e k = root e
    either later false e k = later k

    at : (is_in (format_versions (group + 1) rest) f s ≡ true → f.ino ≡ 1) → (b : Bool) → is_in (cond b (format_versions (group + 1) rest) (format_version group ∷ format_versions (group + 1) rest)) f s ≡ true → f.ino ≡ 1
    at later true k = later k
    at later false k = either later (is_version f s (format_version group)) refl k

originated : (c : Config) (trace : List Line) → IsFollowed c trace → Originated c trace
originated c [] h = record { firsts = λ f d k. absurd (none_some d k); stands = λ f s k. inl (format_root f s 0 c.packs k) }
originated c (x ∷ older) h = originated_told c x.number x.told older h.1 h.0 (originated c older h.1)

-- ---- kinds and sets ----

-- the words of the call that made the file
words_same : (c : Config) (n : ℕ) (r : Record) (older : List Line) (f : FileId) → IsFollowed c older → MayTell c older (Shown r) → HasFirst c (entries older) f →
    words_named (record { line = n; what = r } ∷ entries older) (first_call c (record { line = n; what = r } ∷ entries older) f) ≡ words_named (entries older) (first_call c (entries older) f)
words_same c n r older f h may k =
    ap (words_named (record { line = n; what = r } ∷ entries older)) (first_same c n r (entries older) f k.0 k.1)
    ∙ (ap (option_map (λ (w : Waiting). w.words)) (named_stays c n (Shown r) older k.0 h may k.2) ∙ ap (words_named (entries older)) (sym k.1))

kind_record : (c : Config) (n : ℕ) (r : Record) (older : List Line) (f : FileId) → IsFollowed c older → MayTell c older (Shown r) → Rooted c (entries older) f → kind_of_file c (record { line = n; what = r } ∷ entries older) f ≡ kind_of_file c (entries older) f
kind_record c n r older f h may (inl root) = (let e : (f.ino == 1) ≡ true = equal_test f.ino 1 root in ap (λ (b : Bool). cond b Dir (kind_made (words_named (record { line = n; what = r } ∷ entries older) (first_call c (record { line = n; what = r } ∷ entries older) f)))) e ∙ sym (ap (λ (b : Bool). cond b Dir (kind_made (words_named (entries older) (first_call c (entries older) f)))) e))
kind_record c n r older f h may (inr k) = ap (λ (w : Option Call). cond (f.ino == 1) Dir (kind_made w)) (words_same c n r older f h may k)

set_record : (c : Config) (n : ℕ) (r : Record) (older : List Line) (f : FileId) → IsFollowed c older → MayTell c older (Shown r) → Rooted c (entries older) f → set_of_file c (record { line = n; what = r } ∷ entries older) f ≡ set_of_file c (entries older) f
set_record c n r older f h may (inl root) = (let e : (f.ino == 1) ≡ true = equal_test f.ino 1 root in ap (λ (b : Bool). cond b (packs_of c f.group) (sites_made (packs_of c f.group) (words_named (record { line = n; what = r } ∷ entries older) (first_call c (record { line = n; what = r } ∷ entries older) f)))) e ∙ sym (ap (λ (b : Bool). cond b (packs_of c f.group) (sites_made (packs_of c f.group) (words_named (entries older) (first_call c (entries older) f)))) e))
set_record c n r older f h may (inr k) = ap (λ (w : Option Call). cond (f.ino == 1) (packs_of c f.group) (sites_made (packs_of c f.group) w)) (words_same c n r older f h may k)

pub kind_same : (c : Config) (n : ℕ) (x : Told) (older : List Line) (f : FileId) (s : Stamp) → IsFollowed c older → MayTell c older x → Stands c older f s → kind_of_file c (onto_entries n x (entries older)) f ≡ kind_of_file c (entries older) f
kind_same c n (Shown r) older f s h may k = kind_record c n r older f h may ((originated c older h).stands f s k)
kind_same c n _ older f s h may k = refl

pub set_same : (c : Config) (n : ℕ) (x : Told) (older : List Line) (f : FileId) (s : Stamp) → IsFollowed c older → MayTell c older x → Stands c older f s → set_of_file c (onto_entries n x (entries older)) f ≡ set_of_file c (entries older) f
set_same c n (Shown r) older f s h may k = set_record c n r older f h may ((originated c older h).stands f s k)
set_same c n _ older f s h may k = refl
