-- The open instances of an epoch have names of their own, were granted under these, and are of accepted calls.
use Rattle.std.proofs.Common.{◌≡◌, ℕ, ◌==◌, ◌≤◌, Bool, true, false, not, cond, ◌&&◌, ◌||◌, ◌++◌, ◌+◌, List, [], ◌∷◌, length, filter, map, reverse, Option, Some, None, refl, sym, ap, ◌∙◌, arith}
use Rattle.std.specs.Prelude.{fold}
use Rattle.std.specs.List.{find, list_any, list_all}
use Rattle.std.proofs.lemmas.List.Elements.{filter-append}
use Rattle.locus_ids.specs.declared.config.Config.{Config}
use Rattle.locus_ids.specs.declared.ids.CallId.{CallId}
use Rattle.locus_ids.specs.declared.ids.EpochId.{EpochId}
use Rattle.locus_ids.specs.declared.ids.FileId.{FileId}
use Rattle.locus_ids.specs.declared.ids.Mode.{Mode}
use Rattle.locus_ids.specs.declared.ids.Serial.{Serial}
use Rattle.locus_ids.specs.declared.ids.Stamp.{Stamp}
use Rattle.tree_model.specs.of_file_effects.Works.{committed}
use Rattle.trace_book.specs.Same.{same_epoch}
use Rattle.trace_book.specs.declared.operation.Op.{Op}
use Rattle.trace_book.specs.declared.operation.Outcome.{Outcome}
use Rattle.trace_book.specs.declared.record.Record.{Record}
use Rattle.trace_book.specs.declared.record.Record.TheVariants as says
use Rattle.call_rules.specs.Opening.{is_steady}
use Rattle.tree_model.specs.Calls.{version_at}
use Rattle.tree_model.specs.declared.instance.Granted.{Granted}
use Rattle.tree_model.specs.declared.instance.Instance.{Instance}
use Rattle.tree_model.specs.Folds.{Trace}
use Rattle.tree_model.specs.Histories.{history}
use Rattle.tree_model.specs.State.{TreeState}
use Rattle.tree_model.specs.State as state
use Rattle.tree_model.specs.Tree.{tree_of}
use Rattle.promises.specs.of_lawful_trace.Lawful.{MayCome}
use Rattle.promises.specs.of_lawful_trace.Progress.{outcome_answer}
use Rattle.promises.specs.Past.{Past, Epoch, Instance as OpenInstance, epoch_at, is_named, is_writer, first_or, unformed}
use Rattle.promises.specs.After.{after, change, opened_as, acted, answered, is_actor, is_ender, close_answer, released, has_now, with_making, is_home_of, is_epoch, once_named}
use Rattle.promises.specs.Tree.{work_after}
use Rattle.past_laws.specs.Agreement.{Agrees}
use Rattle.past_laws.proofs.Names.{false_true, both, both_parts}
use Rattle.past_laws.proofs.TreesAt.{at_own, at_other, by_epoch, answers_kept, SaveCalls}
use Rattle.past_laws.proofs.TreesFormed.{formed_joined}
use Rattle.past_laws.proofs.TreesGranted.{grant_by}
use Rattle.past_laws.proofs.TreesKept.{IsBlind}
use Rattle.past_laws.proofs.TreesLists.{length_map, filter_less, of_none}
use Rattle.past_laws.proofs.TreesOpened.{formed_open}
use Rattle.trace_book.specs.Same.{same_call}
use Rattle.std.proofs.Common.{subst}
use Rattle.std.proofs.Common.{append-nil}
use Rattle.std.specs.Prelude.{suc}
use Rattle.std.proofs.lemmas.List.{reverse-append}
use Rattle.past_laws.proofs.Names.{serial_own, serial_eq, number_own}
use Rattle.past_laws.proofs.TreesLists.{filter_map}
use Rattle.std.specs.Prelude.{◌-◌, take}
use Rattle.std.specs.Option.{is_none}
use Rattle.call_rules.specs.declared.answer.Answer.TheVariants.{Refused}
use Rattle.promises.specs.of_lawful_trace.Progress.{granted_answer}
use Rattle.tree_model.specs.Given.{gives_grant}
use Rattle.tree_model.specs.Opening.{is_placed, open_refusal}
use Rattle.promises.specs.Past.{CallSoFar, kept_in}
use Rattle.promises.specs.After.{is_id, look_answer, replied_to}
use Rattle.past_laws.proofs.TreesAt.{at_kept}
use Rattle.past_laws.proofs.TreesKept.{told_kept}
use Rattle.past_laws.proofs.TreesOpenedSteps.{ends_some, once_same}
use Rattle.past_laws.proofs.TreesFormed.{named_any}
use Rattle.past_laws.proofs.TreesLists.{missed, all_filter, all_more}
use Rattle.past_laws.proofs.Changing.{any_changed, map_changed}

-- What was granted of the open instances.

abbrev grants : Epoch → List Granted
grants t = map (λ (x : OpenInstance). x.grant) t.opened

same_grants : (which : OpenInstance → Bool) (f : OpenInstance → OpenInstance) → ((x : OpenInstance) → (f x).grant ≡ x.grant) → (xs : List OpenInstance) → map (λ (x : OpenInstance). x.grant) (change which f xs) ≡ map (λ (x : OpenInstance). x.grant) xs
same_grants which f same xs = map_changed (λ (x : OpenInstance). x.grant) which f (λ x h. same x) xs

-- the records that grant nothing and release nothing
abbrev Keeps : Config → Record → Past → Type 0
Keeps c r p = (e : EpochId) → grants (epoch_at (after c r p) e) ≡ grants (epoch_at p e)

keeps_act : (c : Config) (p : Past) (a : EpochId) (i : Serial) (n : ℕ) (o : Op) (result : Outcome) → Keeps c (says.Act a i n o result) p
keeps_act c p a i n o result e = at_kept grants (is_epoch a) (acted i o result p) (λ t. refl) (λ t. same_grants (is_named i) (λ (x : OpenInstance). record x { work = work_after p t o result x }) (λ x. refl) t.opened) (answered (is_actor (epoch_at p a) i n) (outcome_answer result) p) e

keeps_commit : (c : Config) (p : Past) (f : FileId) (s : ℕ) (stamp : Stamp) (ps : List Stamp) (content : List ℕ) → Keeps c (says.Commit f s stamp ps content) p
keeps_commit c p f s stamp ps content e = at_kept grants (is_home_of p s) (λ (t : Epoch). record t { opened = change (is_writer f s) (λ (x : OpenInstance). record x { work = committed stamp x.work }) t.opened }) (λ t. refl) (λ t. same_grants (is_writer f s) (λ (x : OpenInstance). record x { work = committed stamp x.work }) (λ x. refl) t.opened)
    (record (has_now s (record { file = f; stamp = stamp }) p) { history = record { file = f; site = s; stamp = stamp; parents = ps; content = content } ∷ p.history; files = with_making c f s p }) e

-- What becomes of the grants by any record: they stay, one is added, or one is taken out.
pub data Grows (c : Config) (before : Trace) (p : Past) (r : Record) (e : EpochId) : Type 0 where
  Still : grants (epoch_at (after c r p) e) ≡ grants (epoch_at p e) → (epoch_at (after c r p) e).granted ≡ (epoch_at p e).granted → Grows c before p r e
  Adds : (g : Granted) → grants (epoch_at (after c r p) e) ≡ grants (epoch_at p e) ++ g ∷ [] → (epoch_at (after c r p) e).granted ≡ g ∷ (epoch_at p e).granted → list_any (state.is_grant_of g.inst) (reverse (epoch_at p e).granted) ≡ false → list_any (is_id g.call) p.calls ≡ true → Grows c before p r e
  Ends : (i : Serial) → grants (epoch_at (after c r p) e) ≡ filter (λ g. not (state.is_grant_of i g)) (grants (epoch_at p e)) → (epoch_at (after c r p) e).granted ≡ (epoch_at p e).granted → Grows c before p r e

map_added : {X Y : Type 0} (h : X → Y) (xs : List X) (x : X) → map h (xs ++ x ∷ []) ≡ map h xs ++ h x ∷ []
map_added h [] x = refl
map_added h (y ∷ ys) x = ap (λ zs. h y ∷ zs) (map_added h ys x)

not_granted : (b : Bool) → not b ≡ true → b ≡ false
not_granted true h = sym h
not_granted false h = refl

grows_grant : (c : Config) (before : Trace) (p : Past) (a : EpochId) (id : CallId) (n : ℕ) (i : Serial) (m : Mode) (f : FileId) (stamp : Option Stamp) (ss : ℕ) → MayCome c before (says.Grant a id n i m f stamp ss) → Agrees c before p → (e : EpochId) → Grows c before p (says.Grant a id n i m f stamp ss) e
grows_grant c before p a id n i m f stamp ss may k e = by_epoch (λ x. Grows c before p (says.Grant a id n i m f stamp ss) x) a e own other
  where
    g : Granted
    g = grant_by p id i m f ss

    new : Epoch → Epoch
    new t = record t { granted = g ∷ t.granted; opened = t.opened ++ opened_as p g stamp ∷ [] }

    t : TreeState
    t = tree_of c a f.group before

    becomes : epoch_at (after c (says.Grant a id n i m f stamp ss) p) a ≡ new (epoch_at p a)
    becomes = at_own new (λ u. refl) p a (formed_joined c before p k.epochs ss a may.there)

    -- a grant that the tree gives is of a new name
    is_new : gives_grant (history c before) t id i m f stamp ss ≡ true → state.is_granted t i ≡ false
    is_new h = not_granted (state.is_granted t i) (both_parts (not (state.is_granted t i)) (is_placed (history c before) t id m f stamp ss)
        (both_parts (i.us == id.site) (not (state.is_granted t i) && is_placed (history c before) t id m f stamp ss)
        (both_parts (is_none (open_refusal (history c before) t m id f)) ((i.us == id.site) && (not (state.is_granted t i) && is_placed (history c before) t id m f stamp ss))
        (both_parts t.started (is_none (open_refusal (history c before) t m id f) && ((i.us == id.site) && (not (state.is_granted t i) && is_placed (history c before) t id m f stamp ss))) h).1).1).1).0

    own : Grows c before p (says.Grant a id n i m f stamp ss) a
    own = Adds g (ap grants becomes ∙ map_added (λ (x : OpenInstance). x.grant) (epoch_at p a).opened (opened_as p g stamp)) (ap (λ (u : Epoch). u.granted) becomes)
        (ap (list_any (state.is_grant_of i)) (k.trees.granted a f.group) ∙ is_new may.gives)
        (named_any c before p k.calls id may.opens.step.accepted may.opens.step.named)

    other : same_epoch e a ≡ false → Grows c before p (says.Grant a id n i m f stamp ss) e
    other h = Still (ap grants (at_other new (λ u. refl) p a e h)) (ap (λ (u : Epoch). u.granted) (at_other new (λ u. refl) p a e h))

grows_release : (c : Config) (before : Trace) (p : Past) (a : EpochId) (i : Serial) (f : FileId) (stamp : Option Stamp) → MayCome c before (says.Release a i f stamp) → Agrees c before p → (e : EpochId) → Grows c before p (says.Release a i f stamp) e
grows_release c before p a i f stamp may k e = by_epoch (λ x. Grows c before p (says.Release a i f stamp) x) a e own other
  where
    q : Past
    q = fold (λ old x. answered (is_ender (epoch_at p a) i) (close_answer stamp x) old) p (filter (is_named i) (epoch_at p a).opened)

    calls : SaveCalls p q
    calls = answers_kept (is_ender (epoch_at p a) i) (close_answer stamp) (filter (is_named i) (epoch_at p a).opened) p

    same : (x : EpochId) → epoch_at q x ≡ epoch_at p x
    same x = ap (first_or (unformed x) (is_epoch x)) calls.epochs

    becomes : epoch_at (after c (says.Release a i f stamp) p) a ≡ released i f stamp (epoch_at p a)
    becomes = at_own (released i f stamp) (λ u. refl) q a (ap (list_any (is_epoch a)) calls.epochs ∙ formed_open c before p k a f.group i (ends_some (history c before) (tree_of c a f.group before) i f stamp may.gives)) ∙ ap (released i f stamp) (same a)

    own : Grows c before p (says.Release a i f stamp) a
    own = Ends i (ap grants becomes ∙ sym (filter_map (λ g. not (state.is_grant_of i g)) (λ (x : OpenInstance). x.grant) (epoch_at p a).opened)) (ap (λ (u : Epoch). u.granted) becomes)

    other : same_epoch e a ≡ false → Grows c before p (says.Release a i f stamp) e
    other h = Still (ap grants (at_other (released i f stamp) (λ u. refl) q a e h ∙ same e)) (ap (λ (u : Epoch). u.granted) (at_other (released i f stamp) (λ u. refl) q a e h ∙ same e))

still : (c : Config) (r : Record) (before : Trace) (p : Past) → (e : EpochId) → IsBlind grants r → IsBlind (λ (t : Epoch). t.granted) r → Grows c before p r e
still c r before p e blind other = Still (told_kept grants c r p blind e) (told_kept (λ (t : Epoch). t.granted) c r p other e)

pub grows : (c : Config) (r : Record) (before : Trace) (p : Past) → MayCome c before r → Agrees c before p → (e : EpochId) → Grows c before p r e
grows c (says.Up s b) before p may k e = still c (says.Up s b) before p e tt tt
grows c (says.Stopped s w) before p may k e = still c (says.Stopped s w) before p e (λ t ls. refl) (λ t ls. refl)
grows c (says.Leave s a) before p may k e = still c (says.Leave s a) before p e (λ t ls. refl) (λ t ls. refl)
grows c (says.Join s a m) before p may k e = still c (says.Join s a m) before p e (λ t m. refl, λ t js vs. refl) (λ t m. refl, λ t js vs. refl)
grows c (says.Start a g bs) before p may k e = still c (says.Start a g bs) before p e (λ t gs. refl) (λ t gs. refl)
grows c (says.Accept s q id words) before p may k e = still c (says.Accept s q id words) before p e (λ t w. same_grants w (λ (x : OpenInstance). record x { uses = x.uses + 1 }) (λ x. refl) t.opened) (λ t w. refl)
grows c (says.Look a id n f w result) before p may k e = still c (says.Look a id n f w result) before p e tt tt
grows c (says.Grant a id n i m f stamp ss) before p may k e = grows_grant c before p a id n i m f stamp ss may k e
grows c (says.Refuse a id n i m f why) before p may k e = still c (says.Refuse a id n i m f why) before p e (λ t ms. refl) (λ t ms. refl)
grows c (says.Act a i n o result) before p may k e = Still (keeps_act c p a i n o result e) (told_kept (λ (t : Epoch). t.granted) c (says.Act a i n o result) p (λ t xs ms. refl) e)
grows c (says.Commit f s stamp ps content) before p may k e = Still (keeps_commit c p f s stamp ps content e) (told_kept (λ (t : Epoch). t.granted) c (says.Commit f s stamp ps content) p (λ t xs. refl) e)
grows c (says.Release a i f stamp) before p may k e = grows_release c before p a i f stamp may k e
grows c (says.Adopt f s stamp) before p may k e = still c (says.Adopt f s stamp) before p e tt tt
grows c (says.Answer s q id r) before p may k e = still c (says.Answer s q id r) before p e (λ t w fs. same_grants w (once_named r) (λ x. ap (λ (y : Instance). y.grant) (once_same r x)) t.opened) (λ t w fs. refl)
grows c (says.Packet n from to kind) before p may k e = still c (says.Packet n from to kind) before p e tt tt
grows c says.Void before p may k e = still c says.Void before p e tt tt
grows c says.Budget before p may k e = still c says.Budget before p e tt tt

-- Calls stay accepted.

calls_fold : {X : Type 0} (d : CallId) (step : Past → X → Past) → ((q : Past) (x : X) → list_any (is_id d) (step q x).calls ≡ list_any (is_id d) q.calls) → (xs : List X) (q : Past) → list_any (is_id d) (fold step q xs).calls ≡ list_any (is_id d) q.calls
calls_fold d step same [] q = refl
calls_fold d step same (x ∷ xs) q = calls_fold d step same xs (step q x) ∙ same q x

changed_calls : (d : CallId) (which : CallSoFar → Bool) (f : CallSoFar → CallSoFar) → ((k : CallSoFar) → (f k).id ≡ k.id) → (ks : List CallSoFar) → list_any (is_id d) (change which f ks) ≡ list_any (is_id d) ks
changed_calls d which f ids ks = any_changed (is_id d) which f (λ k h. ap (λ x. same_call x d) (ids k)) ks

pub calls_grow : (c : Config) (r : Record) (p : Past) (d : CallId) → list_any (is_id d) p.calls ≡ true → list_any (is_id d) (after c r p).calls ≡ true
calls_grow c (says.Stopped s w) p d h = changed_calls d (λ (k : CallSoFar). k.id.site == s) (λ (k : CallSoFar). record k { waits = false }) (λ k. refl) p.calls ∙ h
calls_grow c (says.Accept s q id words) p d h = at (same_call id d) h
  where
    at : (b : Bool) → list_any (is_id d) p.calls ≡ true → (b || list_any (is_id d) p.calls) ≡ true
    at true j = refl
    at false j = j
calls_grow c (says.Look a id n f w result) p d h = changed_calls d (is_id id) (λ (k : CallSoFar). record k { answers = take (n - 1) k.answers ++ look_answer p f w result ∷ [] }) (λ k. refl) p.calls ∙ h
calls_grow c (says.Grant a id n i m f stamp ss) p d h = changed_calls d (is_id id) (λ (k : CallSoFar). record k { granted = Some (record { mode = m; epoch = a; inst = i; steady = cond (is_steady k.words) (version_at f stamp) None }); answers = k.answers ++ granted_answer m i f stamp (kept_in p (epoch_at p a) f) ∷ [] }) (λ k. refl) p.calls ∙ h
calls_grow c (says.Refuse a id n i m f why) p d h = changed_calls d (is_id id) (λ (k : CallSoFar). record k { answers = k.answers ++ Refused why ∷ [] }) (λ k. refl) p.calls ∙ h
calls_grow c (says.Act a i n o result) p d h = changed_calls d (is_actor (epoch_at p a) i n) (λ (k : CallSoFar). record k { answers = k.answers ++ outcome_answer result ∷ [] }) (λ k. refl) p.calls ∙ h
calls_grow c (says.Release a i f stamp) p d h = calls_fold d (λ old x. answered (is_ender (epoch_at p a) i) (close_answer stamp x) old) (λ q x. changed_calls d (is_ender (epoch_at p a) i) (λ (k : CallSoFar). record k { answers = k.answers ++ close_answer stamp x ∷ [] }) (λ k. refl) q.calls) (filter (is_named i) (epoch_at p a).opened) p ∙ h
calls_grow c (says.Answer s q id r) p d h = calls_fold d (λ old k. replied_to r k old) (λ q k. changed_calls d (is_id k.id) (λ (x : CallSoFar). record x { waits = false }) (λ k. refl) q.calls) (filter (is_id id) p.calls) p ∙ h
calls_grow c (says.Up s b) p d h = h
calls_grow c (says.Leave s a) p d h = h
calls_grow c (says.Join s a m) p d h = at (list_any (is_epoch a) p.epochs)
  where
    at : (b : Bool) → list_any (is_id d) (cond b p (record p { epochs = record (unformed a) { members = m } ∷ p.epochs })).calls ≡ true
    at true = h
    at false = h
calls_grow c (says.Start a g bs) p d h = h
calls_grow c (says.Commit f s stamp ps content) p d h = h
calls_grow c (says.Adopt f s stamp) p d h = h
calls_grow c (says.Packet n from to kind) p d h = h
calls_grow c says.Void p d h = h
calls_grow c says.Budget p d h = h

-- The invariants.

counted : (i : Serial) (t : Epoch) → length (filter (is_named i) t.opened) ≡ length (filter (state.is_grant_of i) (grants t))
counted i t = sym (ap length (filter_map (state.is_grant_of i) (λ (x : OpenInstance). x.grant) t.opened) ∙ length_map (λ (x : OpenInstance). x.grant) (filter (is_named i) t.opened))

all_map : {X Y : Type 0} (q : Y → Bool) (h : X → Y) (xs : List X) → list_all q (map h xs) ≡ list_all (λ x. q (h x)) xs
all_map q h [] = refl
all_map q h (x ∷ xs) = ap (λ b. q (h x) && b) (all_map q h xs)

all_added : {X : Type 0} (q : X → Bool) (xs : List X) (x : X) → list_all q xs ≡ true → q x ≡ true → list_all q (xs ++ x ∷ []) ≡ true
all_added q [] x h e = both (q x) true e refl
all_added q (y ∷ ys) x h e = both (q y) (list_all q (ys ++ x ∷ [])) (both_parts (q y) (list_all q ys) h).0 (all_added q ys x (both_parts (q y) (list_all q ys) h).1 e)

find_added : {X : Type 0} (q : X → Bool) (xs : List X) (y : X) (P : Option X → Bool) → P None ≡ false → P (find q xs) ≡ true → P (find q (xs ++ y ∷ [])) ≡ true
find_added q [] y P none h = false_true (sym none ∙ h)
find_added {X} q (x ∷ xs) y P none h = at (find_added q xs y P none) (q x) h
  where
    at : (P (find q xs) ≡ true → P (find q (xs ++ y ∷ [])) ≡ true) → (b : Bool) → P (cond b (Some x) (find q xs)) ≡ true → P (cond b (Some x) (find q (xs ++ y ∷ []))) ≡ true
    at later true j = j
    at later false j = later j

find_last : {X : Type 0} (q : X → Bool) (xs : List X) (y : X) → list_any q xs ≡ false → q y ≡ true → find q (xs ++ y ∷ []) ≡ Some y
find_last {X} q [] y none e = rw e refl
find_last {X} q (x ∷ xs) y none e = at (λ k. find_last q xs y k e) (q x) none
  where
    at : (list_any q xs ≡ false → find q (xs ++ y ∷ []) ≡ Some y) → (b : Bool) → (b || list_any q xs) ≡ false → cond b (Some x) (find q (xs ++ y ∷ [])) ≡ Some y
    at later true k = false_true (sym k)
    at later false k = later k

-- the grant by which the latest of the name was granted
abbrev named_by : List Granted → Serial → Option Granted
named_by gs i = find (state.is_grant_of i) (reverse gs)

abbrev are_good : List Granted → List Granted → Bool
are_good gs xs = list_all (λ (g : Granted). state.is_group_of (named_by gs g.inst) g.file.group) xs

good_more : (gs xs : List Granted) (g : Granted) → are_good gs xs ≡ true → are_good (g ∷ gs) xs ≡ true
good_more gs xs g h = all_more (λ (x : Granted). state.is_group_of (named_by gs x.inst) x.file.group) (λ (x : Granted). state.is_group_of (named_by (g ∷ gs) x.inst) x.file.group)
    (λ x k. ap (λ ys. state.is_group_of (find (state.is_grant_of x.inst) ys) x.file.group) (reverse-append (g ∷ []) gs) ∙ find_added (state.is_grant_of x.inst) (reverse gs) g (λ o. state.is_group_of o x.file.group) refl k) xs h

good_own : (gs : List Granted) (g : Granted) → list_any (state.is_grant_of g.inst) (reverse gs) ≡ false → state.is_group_of (named_by (g ∷ gs) g.inst) g.file.group ≡ true
good_own gs g none = ap (λ ys. state.is_group_of (find (state.is_grant_of g.inst) ys) g.file.group) (reverse-append (g ∷ []) gs) ∙ (ap (λ o. state.is_group_of o g.file.group) (find_last (state.is_grant_of g.inst) (reverse gs) g none (serial_own g.inst)) ∙ number_own g.file.group)

-- what was granted under a name among these is so among all grants
not_open : (gs : List Granted) (i : Serial) → list_any (state.is_grant_of i) (reverse gs) ≡ false → (xs : List Granted) → are_good gs xs ≡ true → list_any (state.is_grant_of i) xs ≡ false
not_open gs i none [] h = refl
not_open gs i none (x ∷ xs) h = at (not_open gs i none xs parts.1) (state.is_grant_of i x) refl
  where
    parts : (state.is_group_of (named_by gs x.inst) x.file.group ≡ true) × (are_good gs xs ≡ true)
    parts = both_parts (state.is_group_of (named_by gs x.inst) x.file.group) (are_good gs xs) h

    at : list_any (state.is_grant_of i) xs ≡ false → (b : Bool) → state.is_grant_of i x ≡ b → (b || list_any (state.is_grant_of i) xs) ≡ false
    at later false e = later
    at later true e = false_true (sym (ap (λ o. state.is_group_of o x.file.group) (missed (state.is_grant_of i) (reverse gs) none)) ∙ (ap (λ j. state.is_group_of (named_by gs j) x.file.group) (sym (serial_eq x.inst i e)) ∙ parts.0))

length_added : {X : Type 0} (xs : List X) (x : X) → length (xs ++ x ∷ []) ≡ length xs + 1
length_added [] x = refl
length_added (y ∷ ys) x = ap suc (length_added ys x) ∙ omega arith

pub one_named_step : (c : Config) (r : Record) (before : Trace) (p : Past) → MayCome c before r → Agrees c before p → (e : EpochId) (i : Serial) → length (filter (is_named i) (epoch_at (after c r p) e).opened) ≤ 1
one_named_step c r before p may k e i = subst (λ n. n ≤ 1) (sym (counted i (epoch_at (after c r p) e))) (at (grows c r before p may k e))
  where
    old : length (filter (state.is_grant_of i) (grants (epoch_at p e))) ≤ 1
    old = subst (λ n. n ≤ 1) (counted i (epoch_at p e)) (k.trees.one_named e i)

    added : (g : Granted) → list_any (state.is_grant_of g.inst) (grants (epoch_at p e)) ≡ false → (b : Bool) → state.is_grant_of i g ≡ b → length (filter (state.is_grant_of i) (grants (epoch_at p e) ++ g ∷ [])) ≤ 1
    added g none true h = subst (λ n. n ≤ 1) (sym (ap length (filter-append (state.is_grant_of i) (grants (epoch_at p e)) (g ∷ []) ∙ (ap (λ xs. xs ++ filter (state.is_grant_of i) (g ∷ [])) (of_none (state.is_grant_of i) (grants (epoch_at p e)) (ap (λ j. list_any (state.is_grant_of j) (grants (epoch_at p e))) (sym (serial_eq g.inst i h)) ∙ none)) ∙ ap (λ b. cond b (g ∷ []) []) h)))) (omega arith)
    added g none false h = subst (λ n. n ≤ 1) (sym (ap length (filter-append (state.is_grant_of i) (grants (epoch_at p e)) (g ∷ []) ∙ (ap (λ b. filter (state.is_grant_of i) (grants (epoch_at p e)) ++ cond b (g ∷ []) []) h ∙ append-nil (filter (state.is_grant_of i) (grants (epoch_at p e))))))) old

    at : Grows c before p r e → length (filter (state.is_grant_of i) (grants (epoch_at (after c r p) e))) ≤ 1
    at (Still same gs) = subst (λ xs. length (filter (state.is_grant_of i) xs) ≤ 1) (sym same) old
    at (Adds g same gs none call) = subst (λ xs. length (filter (state.is_grant_of i) xs) ≤ 1) (sym same) (added g (not_open (epoch_at p e).granted g.inst none (grants (epoch_at p e)) (all_map (λ (x : Granted). state.is_group_of (named_by (epoch_at p e).granted x.inst) x.file.group) (λ (x : OpenInstance). x.grant) (epoch_at p e).opened ∙ k.trees.was_granted e)) (state.is_grant_of i g) refl)
    at (Ends j same gs) = subst (λ xs. length (filter (state.is_grant_of i) xs) ≤ 1) (sym same) (omega (arith, filter_less (state.is_grant_of i) (λ g. not (state.is_grant_of j g)) (grants (epoch_at p e)), old))

pub was_granted_step : (c : Config) (r : Record) (before : Trace) (p : Past) → MayCome c before r → Agrees c before p → (e : EpochId) → list_all (λ (x : OpenInstance). state.is_group_of (named_by (epoch_at (after c r p) e).granted x.grant.inst) x.grant.file.group) (epoch_at (after c r p) e).opened ≡ true
was_granted_step c r before p may k e = sym (all_map (λ (x : Granted). state.is_group_of (named_by (epoch_at (after c r p) e).granted x.inst) x.file.group) (λ (x : OpenInstance). x.grant) (epoch_at (after c r p) e).opened) ∙ at (grows c r before p may k e)
  where
    old : are_good (epoch_at p e).granted (grants (epoch_at p e)) ≡ true
    old = all_map (λ (x : Granted). state.is_group_of (named_by (epoch_at p e).granted x.inst) x.file.group) (λ (x : OpenInstance). x.grant) (epoch_at p e).opened ∙ k.trees.was_granted e

    at : Grows c before p r e → are_good (epoch_at (after c r p) e).granted (grants (epoch_at (after c r p) e)) ≡ true
    at (Still same gs) = ap (are_good (epoch_at (after c r p) e).granted) same ∙ (ap (λ ys. are_good ys (grants (epoch_at p e))) gs ∙ old)
    at (Adds g same gs none call) = ap (are_good (epoch_at (after c r p) e).granted) same ∙ (ap (λ ys. are_good ys (grants (epoch_at p e) ++ g ∷ [])) gs
        ∙ all_added (λ (x : Granted). state.is_group_of (named_by (g ∷ (epoch_at p e).granted) x.inst) x.file.group) (grants (epoch_at p e)) g (good_more (epoch_at p e).granted (grants (epoch_at p e)) g old) (good_own (epoch_at p e).granted g none))
    at (Ends j same gs) = ap (are_good (epoch_at (after c r p) e).granted) same ∙ (ap (λ ys. are_good ys (filter (λ g. not (state.is_grant_of j g)) (grants (epoch_at p e)))) gs
        ∙ all_filter (λ (x : Granted). state.is_group_of (named_by (epoch_at p e).granted x.inst) x.file.group) (λ g. not (state.is_grant_of j g)) (grants (epoch_at p e)) old)

abbrev are_called : Past → List Granted → Bool
are_called p gs = list_all (λ (g : Granted). list_any (is_id g.call) p.calls) gs

called_later : (c : Config) (r : Record) (p : Past) (gs : List Granted) → are_called p gs ≡ true → are_called (after c r p) gs ≡ true
called_later c r p gs h = all_more (λ (g : Granted). list_any (is_id g.call) p.calls) (λ (g : Granted). list_any (is_id g.call) (after c r p).calls) (λ g j. calls_grow c r p g.call j) gs h

pub called_step : (c : Config) (r : Record) (before : Trace) (p : Past) → MayCome c before r → Agrees c before p → (e : EpochId) → list_all (λ (x : OpenInstance). list_any (is_id x.grant.call) (after c r p).calls) (epoch_at (after c r p) e).opened ≡ true
called_step c r before p may k e = sym (all_map (λ (g : Granted). list_any (is_id g.call) (after c r p).calls) (λ (x : OpenInstance). x.grant) (epoch_at (after c r p) e).opened) ∙ at (grows c r before p may k e)
  where
    old : are_called p (grants (epoch_at p e)) ≡ true
    old = all_map (λ (g : Granted). list_any (is_id g.call) p.calls) (λ (x : OpenInstance). x.grant) (epoch_at p e).opened ∙ k.trees.called e

    at : Grows c before p r e → are_called (after c r p) (grants (epoch_at (after c r p) e)) ≡ true
    at (Still same gs) = ap (are_called (after c r p)) same ∙ called_later c r p (grants (epoch_at p e)) old
    at (Adds g same gs none call) = ap (are_called (after c r p)) same ∙ all_added (λ (x : Granted). list_any (is_id x.call) (after c r p).calls) (grants (epoch_at p e)) g (called_later c r p (grants (epoch_at p e)) old) (calls_grow c r p g.call call)
    at (Ends j same gs) = ap (are_called (after c r p)) same ∙ called_later c r p (filter (λ g. not (state.is_grant_of j g)) (grants (epoch_at p e))) (all_filter (λ (x : Granted). list_any (is_id x.call) p.calls) (λ g. not (state.is_grant_of j g)) (grants (epoch_at p e)) old)
