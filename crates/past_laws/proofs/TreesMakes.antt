-- The makes underway in the trees, by both formulations.
use Rattle.std.proofs.Common.{◌≡◌, ℕ, ◌==◌, Bool, true, false, not, cond, ◌&&◌, ◌++◌, List, [], ◌∷◌, filter, map, Option, Some, None, refl, sym, ap, ◌∙◌}
use Rattle.std.specs.Prelude.{fold}
use Rattle.std.specs.List.{find, list_any}
use Rattle.std.specs.Option.{is_some, option_map}
use Rattle.locus_ids.specs.declared.config.Config.{Config}
use Rattle.locus_ids.specs.declared.ids.CallId.{CallId}
use Rattle.locus_ids.specs.declared.ids.EpochId.{EpochId}
use Rattle.locus_ids.specs.declared.ids.FileId.{FileId}
use Rattle.locus_ids.specs.declared.ids.Mode.{Mode}
use Rattle.locus_ids.specs.declared.ids.Serial.{Serial}
use Rattle.locus_ids.specs.declared.ids.Stamp.{Stamp}
use Rattle.trace_book.specs.Same.{same_epoch}
use Rattle.trace_book.specs.declared.operation.Op.{Op}
use Rattle.trace_book.specs.declared.operation.Outcome.{Outcome}
use Rattle.trace_book.specs.declared.record.Record.{Record}
use Rattle.trace_book.specs.declared.record.Record.TheVariants as says
use Rattle.tree_model.specs.declared.instance.Granted.{Granted}
use Rattle.tree_model.specs.Folds.{Trace}
use Rattle.tree_model.specs.Histories.{history}
use Rattle.tree_model.specs.State.{TreeState}
use Rattle.tree_model.specs.State as state
use Rattle.tree_model.specs.Tree.{tree_of, next, acted as acted_in, released as released_in}
use Rattle.promises.specs.of_lawful_trace.Lawful.{MayCome}
use Rattle.promises.specs.of_lawful_trace.TreeRows.{granted_group}
use Rattle.promises.specs.of_lawful_trace.Progress.{outcome_answer}
use Rattle.promises.specs.Past.{Past, Epoch, Instance as OpenInstance, epoch_at, is_named, first_or, unformed}
use Rattle.promises.specs.After.{after, acted, answered, is_actor, is_ender, close_answer, released, is_epoch}
use Rattle.past_laws.specs.Agreement.{Agrees, instance_of}
use Rattle.past_laws.proofs.Names.{false_true, number_eq, none_some, some_same}
use Rattle.past_laws.proofs.TreesAt.{is_formed, at_own, at_other, by_epoch, answers_kept, SaveCalls}
use Rattle.past_laws.proofs.TreesFolds.{group_is}
use Rattle.past_laws.proofs.TreesFormed.{is_own, is_other}
use Rattle.past_laws.proofs.TreesKept.{IsBlind, IsBlindTree, stays}
use Rattle.past_laws.proofs.TreesLists.{number_test, filter_both}
use Rattle.past_laws.proofs.TreesOpened.{is_in_group, found_here, group_one, grant_at, here_is, instance_is, formed_open}
use Rattle.trace_book.specs.Same.{same_call}
use Rattle.locus_ids.specs.declared.refusal.Refusal.{Refusal}
use Rattle.trace_book.specs.declared.operation.Op.TheVariants as op
use Rattle.trace_book.specs.declared.operation.Outcome.TheVariants as outcome
use Rattle.tree_model.specs.Tree.{is_passed_probe, with_make, without_make, without_made}
use Rattle.tree_model.specs.Working.{list_of}
use Rattle.promises.specs.Past.{Make}
use Rattle.promises.specs.After.{begun_make}
use Rattle.past_laws.specs.Agreement.{makes_in}
use Rattle.past_laws.proofs.Names.{call_turned}
use Rattle.past_laws.proofs.TreesLists.{any_one, filter_one, filter_map, filter_same, filter_in, find_both}
use Rattle.past_laws.proofs.TreesFormed.{formed_served}
use Rattle.past_laws.proofs.TreesOpenedSteps.{ends_here, gives_some, ends_some}

abbrev pub MakesAfter : Config → Record → Trace → Past → EpochId → ℕ → Type 0
MakesAfter c r before p e group = makes_in (epoch_at (after c r p) e) group ≡ (next (history c before) r (tree_of c e group before)).makes

still : (c : Config) (r : Record) (before : Trace) (p : Past) → Agrees c before p → (e : EpochId) (group : ℕ) → IsBlind (λ (t : Epoch). makes_in t group) r → IsBlindTree (λ (t : TreeState). t.makes) r → MakesAfter c r before p e group
still c r before p k e group blind other = stays (λ (t : Epoch). makes_in t group) (λ (t : TreeState). t.makes) c r before p e group blind other (k.trees.makes e group)

-- the calls of the makes of a group among these
abbrev made : ℕ → List Make → List CallId
made group ms = map (λ (m : Make). m.call) (filter (λ (m : Make). m.group == group) ms)

turned : {X : Type 0} (a b : X → Bool) (xs : List X) → filter a (filter b xs) ≡ filter b (filter a xs)
turned a b xs = filter_both a b xs ∙ (filter_same (λ x. a x && b x) (λ x. b x && a x) (λ x. flip (a x) (b x)) xs ∙ sym (filter_both b a xs))
  where
    flip : (c d : Bool) → (c && d) ≡ (d && c)
    flip true true = refl
    flip true false = refl
    flip false true = refl
    flip false false = refl

-- some makes are taken out: where those of the group pass by their calls alone
made_without : (group : ℕ) (q : Make → Bool) (r : CallId → Bool) → ((m : Make) → (m.group == group) ≡ true → q m ≡ r m.call) → (ms : List Make) → made group (filter q ms) ≡ filter r (made group ms)
made_without group q r same ms = ap (map (λ (m : Make). m.call)) (turned (λ (m : Make). m.group == group) q ms ∙ filter_in (λ (m : Make). m.group == group) q (λ m. r m.call) same ms) ∙ sym (filter_map r (λ (m : Make). m.call) (filter (λ (m : Make). m.group == group) ms))

all_pass : {X : Type 0} (q : X → Bool) → ((x : X) → q x ≡ true) → (xs : List X) → filter q xs ≡ xs
all_pass q h [] = refl
all_pass q h (x ∷ xs) = ap (λ b. cond b (x ∷ filter q xs) (filter q xs)) (h x) ∙ ap (λ ys. x ∷ ys) (all_pass q h xs)

made_all : (group : ℕ) (q : Make → Bool) → ((m : Make) → (m.group == group) ≡ true → q m ≡ true) → (ms : List Make) → made group (filter q ms) ≡ made group ms
made_all group q pass ms = made_without group q (λ d. true) pass ms ∙ all_pass (λ d. true) (λ d. refl) (made group ms)

-- Refusals.

makes_refuse : (c : Config) (before : Trace) (p : Past) (a : EpochId) (id : CallId) (n : ℕ) (i : Serial) (m : Mode) (f : FileId) (why : Refusal) → MayCome c before (says.Refuse a id n i m f why) → Agrees c before p → (e : EpochId) (group : ℕ) → MakesAfter c (says.Refuse a id n i m f why) before p e group
makes_refuse c before p a id n i m f why may k e group = by_epoch (λ x. MakesAfter c (says.Refuse a id n i m f why) before p x group) a e own other
  where
    t : EpochId → TreeState
    t x = tree_of c x group before

    ends : Make → Bool
    ends d = not (state.is_make m && ((d.group == f.group) && same_call d.call id))

    new : Epoch → Epoch
    new u = record u { makes = filter ends u.makes }

    refused : (b d : Bool) → state.is_make m ≡ b → (f.group == group) ≡ d → made group (filter ends (epoch_at p a).makes) ≡ (cond (d && b) (record (t a) { makes = without_make id (t a).makes }) (t a)).makes
    refused true true h j = made_without group ends (λ d. not (same_call d id)) (λ d here. ap (λ b. not (b && ((d.group == f.group) && same_call d.call id))) h ∙ ap (λ b. not (b && same_call d.call id)) (number_test d.group f.group (number_eq d.group group here ∙ sym (number_eq f.group group j)))) (epoch_at p a).makes ∙ ap (without_make id) (k.trees.makes a group)
    refused true false h j = made_all group ends (λ d here. ap (λ b. not (b && ((d.group == f.group) && same_call d.call id))) h ∙ ap (λ b. not (b && same_call d.call id)) (apart d here (d.group == f.group) refl)) (epoch_at p a).makes ∙ k.trees.makes a group
      where
        apart : (d : Make) → (d.group == group) ≡ true → (b : Bool) → (d.group == f.group) ≡ b → (d.group == f.group) ≡ false
        apart d here false e = e
        apart d here true e = false_true (sym j ∙ number_test f.group group (sym (number_eq d.group f.group e) ∙ number_eq d.group group here))
    refused false true h j = made_all group ends (λ d here. ap (λ b. not (b && ((d.group == f.group) && same_call d.call id))) h) (epoch_at p a).makes ∙ k.trees.makes a group
    refused false false h j = made_all group ends (λ d here. ap (λ b. not (b && ((d.group == f.group) && same_call d.call id))) h) (epoch_at p a).makes ∙ k.trees.makes a group

    own : MakesAfter c (says.Refuse a id n i m f why) before p a group
    own = ap (λ (u : Epoch). makes_in u group) (at_own new (λ u. refl) p a (formed_served c before p k.epochs a f.group may.opens.served))
        ∙ (refused (state.is_make m) (f.group == group) refl refl
        ∙ sym (ap (λ b. (cond (b && ((f.group == (t a).group) && state.is_make m)) (record (t a) { makes = without_make id (t a).makes }) (t a)).makes) (is_own c a group before) ∙ ap (λ y. (cond ((f.group == y) && state.is_make m) (record (t a) { makes = without_make id (t a).makes }) (t a)).makes) (group_is c a group before)))

    other : same_epoch e a ≡ false → MakesAfter c (says.Refuse a id n i m f why) before p e group
    other h = ap (λ (u : Epoch). makes_in u group) (at_other new (λ u. refl) p a e h)
        ∙ (k.trees.makes e group
        ∙ sym (ap (λ b. (cond (b && ((f.group == (t e).group) && state.is_make m)) (record (t e) { makes = without_make id (t e).makes }) (t e)).makes) (is_other c a e group before h)))

-- Operations.

pub begun_is : (o : Op) (result : Outcome) (x : OpenInstance) → begun_make o result x ≡ cond (is_passed_probe o result) (record { call = x.grant.call; group = x.grant.file.group } ∷ []) []
begun_is (op.Probe name) outcome.Done x = refl
begun_is o result x = refl

made_more : (group : ℕ) (x : OpenInstance) (ms : List Make) → made group (record { call = x.grant.call; group = x.grant.file.group } ∷ ms) ≡ cond (is_in_group group x) (x.grant.call ∷ made group ms) (made group ms)
made_more group x ms = at (is_in_group group x)
  where
    at : (b : Bool) → map (λ (m : Make). m.call) (cond b (record { call = x.grant.call; group = x.grant.file.group } ∷ filter (λ (m : Make). m.group == group) ms) (filter (λ (m : Make). m.group == group) ms)) ≡ cond b (x.grant.call ∷ made group ms) (made group ms)
    at true = refl
    at false = refl

pub found_both : {X : Type 0} (q g : X → Bool) (xs : List X) (x : X) → find q xs ≡ Some x → g x ≡ true → find (λ y. q y && g y) xs ≡ Some x
found_both q g [] x h e = none_some x h
found_both {X} q g (y ∷ ys) x h e = at (found_both q g ys x) (q y) refl
  where
    at : (find q ys ≡ Some x → g x ≡ true → find (λ z. q z && g z) ys ≡ Some x) → (b : Bool) → q y ≡ b → find (λ z. q z && g z) (y ∷ ys) ≡ Some x
    at later true j = (let is : y ≡ x = some_same y x (rw j at h) in rw j (ap (λ b. cond b (Some y) (find (λ z. q z && g z) ys)) (ap g is ∙ e) ∙ ap (λ z. Some z) is))
    at later false j = rw j (later (rw j at h) e)

none_both : {X : Type 0} (q g : X → Bool) (xs : List X) → find q xs ≡ None → find (λ y. q y && g y) xs ≡ None
none_both q g [] h = refl
none_both {X} q g (y ∷ ys) h = at (none_both q g ys) (q y) refl
  where
    at : (find q ys ≡ None → find (λ z. q z && g z) ys ≡ None) → (b : Bool) → q y ≡ b → find (λ z. q z && g z) (y ∷ ys) ≡ None
    at later true j = none_some y (sym (rw j at h))
    at later false j = rw j (later (rw j at h))

makes_act : (c : Config) (before : Trace) (p : Past) (a : EpochId) (i : Serial) (n : ℕ) (o : Op) (result : Outcome) → MayCome c before (says.Act a i n o result) → Agrees c before p → (e : EpochId) (group : ℕ) → MakesAfter c (says.Act a i n o result) before p e group
makes_act c before p a i n o result may k e group = by_epoch (λ x. MakesAfter c (says.Act a i n o result) before p x group) a e own other
  where
    t : EpochId → TreeState
    t x = tree_of c x group before

    q : Past
    q = answered (is_actor (epoch_at p a) i n) (outcome_answer result) p

    formed : is_formed p a ≡ true
    formed = formed_open c before p k a (granted_group before a i) i (gives_some (history c before) (tree_of c a (granted_group before a i) before) i n o result may.gives)

    then : Epoch
    then = epoch_at p a

    -- what the tree has under the name
    instance : state.instance_in (t a) i ≡ option_map instance_of (find (λ x. is_named i x && is_in_group group x) then.opened)
    instance = instance_is c before p k a group i ∙ ap (option_map instance_of) (find_both (is_named i) (is_in_group group) then.opened)

    old : Bool → List CallId
    old b = (cond b (acted_in (history c before) i o result (t a)) (t a)).makes

    by_make : OpenInstance → Bool → List Make
    by_make x d = cond d (record { call = x.grant.call; group = x.grant.file.group } ∷ []) [] ++ then.makes

    passed : (x : OpenInstance) → find (is_named i) then.opened ≡ Some x → (here d : Bool) → is_in_group group x ≡ here → made group (by_make x d) ≡ cond (here && d) (x.grant.call ∷ made group then.makes) (made group then.makes)
    passed x h here false j = flat here
      where
        flat : (b : Bool) → made group then.makes ≡ cond (b && false) (x.grant.call ∷ made group then.makes) (made group then.makes)
        flat true = refl
        flat false = refl
    passed x h true true j = made_more group x then.makes ∙ ap (λ b. cond b (x.grant.call ∷ made group then.makes) (made group then.makes)) j
    passed x h false true j = made_more group x then.makes ∙ ap (λ b. cond b (x.grant.call ∷ made group then.makes) (made group then.makes)) j

    probed : (x : OpenInstance) → find (is_named i) then.opened ≡ Some x → (here d : Bool) → is_in_group group x ≡ here → is_passed_probe o result ≡ d → cond (here && d) (x.grant.call ∷ made group then.makes) (made group then.makes) ≡ old here
    probed x h true d j w = ap (λ cs. cond d (x.grant.call ∷ cs) cs) (k.trees.makes a group)
        ∙ (ap (λ y. cond d (with_make y (t a).makes) (t a).makes) (sym (instance ∙ ap (option_map instance_of) (found_both (is_named i) (is_in_group group) then.opened x h j)))
        ∙ ap (λ b. cond b (with_make (state.instance_in (t a) i) (t a).makes) (t a).makes) (sym w))
    probed x h false d j w = k.trees.makes a group

    here_now : (x : OpenInstance) → find (is_named i) then.opened ≡ Some x → state.is_granted_here (t a) i ≡ is_in_group group x
    here_now x h = here_is c before p k a group i ∙ group_is_of (grant_at p a i) (found_here (grant_at p a) i then.opened x (k.trees.was_granted a) h)
      where
        group_is_of : (g : Option Granted) → state.is_group_of g x.grant.file.group ≡ true → state.is_group_of g group ≡ is_in_group group x
        group_is_of None j = false_true j
        group_is_of (Some g) j = ap (λ y. y == group) (number_eq g.file.group x.grant.file.group j)

    with_none : (d : Bool) (b : Bool) → find (is_named i) then.opened ≡ None → is_passed_probe o result ≡ d → made group then.makes ≡ old b
    with_none d false h w = k.trees.makes a group
    with_none d true h w = k.trees.makes a group ∙ (flat d
        ∙ (ap (λ y. cond d (with_make y (t a).makes) (t a).makes) (sym (instance ∙ ap (option_map instance_of) (none_both (is_named i) (is_in_group group) then.opened h)))
        ∙ ap (λ b. cond b (with_make (state.instance_in (t a) i) (t a).makes) (t a).makes) (sym w)))
      where
        flat : (b : Bool) → (t a).makes ≡ cond b (with_make None (t a).makes) (t a).makes
        flat true = refl
        flat false = refl

    found : (x : Option OpenInstance) → find (is_named i) then.opened ≡ x → made group (fold (λ ms y. begun_make o result y ++ ms) then.makes (list_of x)) ≡ old (state.is_granted_here (t a) i)
    found None h = with_none (is_passed_probe o result) (state.is_granted_here (t a) i) h refl
    found (Some x) h = ap (λ ms. made group (ms ++ then.makes)) (begun_is o result x)
        ∙ (passed x h (is_in_group group x) (is_passed_probe o result) refl
        ∙ (probed x h (is_in_group group x) (is_passed_probe o result) refl refl
        ∙ ap old (sym (here_now x h))))

    own : MakesAfter c (says.Act a i n o result) before p a group
    own = ap (λ (u : Epoch). makes_in u group) (at_own (acted i o result p) (λ u. refl) q a formed)
        ∙ (ap (λ xs. made group (fold (λ ms y. begun_make o result y ++ ms) then.makes xs)) (filter_one (is_named i) then.opened (k.trees.one_named a i))
        ∙ (found (find (is_named i) then.opened) refl
        ∙ sym (ap (λ b. old (b && state.is_granted_here (t a) i)) (is_own c a group before))))

    other : same_epoch e a ≡ false → MakesAfter c (says.Act a i n o result) before p e group
    other h = ap (λ (u : Epoch). makes_in u group) (at_other (acted i o result p) (λ u. refl) q a e h)
        ∙ (k.trees.makes e group
        ∙ sym (ap (λ b. (cond (b && state.is_granted_here (t e) i) (acted_in (history c before) i o result (t e)) (t e)).makes) (is_other c a e group before h)))

-- Releases.

makes_release : (c : Config) (before : Trace) (p : Past) (a : EpochId) (i : Serial) (f : FileId) (stamp : Option Stamp) → MayCome c before (says.Release a i f stamp) → Agrees c before p → (e : EpochId) (group : ℕ) → MakesAfter c (says.Release a i f stamp) before p e group
makes_release c before p a i f stamp may k e group = by_epoch (λ x. MakesAfter c (says.Release a i f stamp) before p x group) a e own other
  where
    t : EpochId → TreeState
    t x = tree_of c x group before

    q : Past
    q = fold (λ old x. answered (is_ender (epoch_at p a) i) (close_answer stamp x) old) p (filter (is_named i) (epoch_at p a).opened)

    calls : SaveCalls p q
    calls = answers_kept (is_ender (epoch_at p a) i) (close_answer stamp) (filter (is_named i) (epoch_at p a).opened) p

    formed : is_formed q a ≡ true
    formed = ap (list_any (is_epoch a)) calls.epochs ∙ formed_open c before p k a f.group i (ends_some (history c before) (tree_of c a f.group before) i f stamp may.gives)

    same : (x : EpochId) → epoch_at q x ≡ epoch_at p x
    same x = ap (first_or (unformed x) (is_epoch x)) calls.epochs

    then : Epoch
    then = epoch_at p a

    made_by : Make → OpenInstance → Bool
    made_by m x = state.is_make x.grant.mode && same_call x.grant.call m.call

    stay : Make → Bool
    stay m = not ((m.group == f.group) && list_any (λ (x : OpenInstance). is_named i x && made_by m x) then.opened)

    -- the makes of other groups stay
    apart : (f.group == group) ≡ false → made group (filter stay then.makes) ≡ made group then.makes
    apart h = made_all group stay (λ m here. ap (λ b. not (b && list_any (λ (x : OpenInstance). is_named i x && made_by m x) then.opened)) (other_group m here (m.group == f.group) refl)) then.makes
      where
        other_group : (m : Make) → (m.group == group) ≡ true → (b : Bool) → (m.group == f.group) ≡ b → (m.group == f.group) ≡ false
        other_group m here false e = e
        other_group m here true e = false_true (sym h ∙ number_test f.group group (sym (number_eq m.group f.group e) ∙ number_eq m.group group here))

    instance : (f.group == group) ≡ true → (x : OpenInstance) → find (is_named i) then.opened ≡ Some x → state.instance_in (t a) i ≡ Some (instance_of x)
    instance h x e = instance_is c before p k a group i ∙ (ap (option_map instance_of) (find_both (is_named i) (is_in_group group) then.opened) ∙ ap (option_map instance_of) (found_both (is_named i) (is_in_group group) then.opened x e
        (number_test x.grant.file.group group (group_one (grant_at p a i) x.grant.file.group f.group (found_here (grant_at p a) i then.opened x (k.trees.was_granted a) e) (ends_here c before p a i f stamp may k) ∙ number_eq f.group group h))))

    by_mode : (x : OpenInstance) (b : Bool) → state.is_make x.grant.mode ≡ b → filter (λ d. not (b && same_call x.grant.call d)) (made group then.makes) ≡ cond b (without_make x.grant.call (made group then.makes)) (made group then.makes)
    by_mode x true j = filter_same (λ d. not (same_call x.grant.call d)) (λ d. not (same_call d x.grant.call)) (λ d. ap not (call_turned x.grant.call d)) (made group then.makes)
    by_mode x false j = all_pass (λ d. true) (λ d. refl) (made group then.makes)

    ended : (f.group == group) ≡ true → (x : Option OpenInstance) → find (is_named i) then.opened ≡ x → made group (filter stay then.makes) ≡ without_made (state.instance_in (t a) i) (t a).makes
    ended h None e = false_true (missing ∙ sym (ap is_some (instance_is c before p k a group i)) ∙ ap (λ g. is_some (state.instance_in (tree_of c a g before) i)) (sym (number_eq f.group group h)) ∙ ends_some (history c before) (tree_of c a f.group before) i f stamp may.gives)
      where
        missing : false ≡ is_some (option_map instance_of (find (is_named i) (filter (is_in_group group) then.opened)))
        missing = sym (ap (λ o. is_some (option_map instance_of o)) (find_both (is_named i) (is_in_group group) then.opened ∙ none_both (is_named i) (is_in_group group) then.opened e))
    ended h (Some x) e = made_without group stay (λ d. not (state.is_make x.grant.mode && same_call x.grant.call d))
        (λ m here. ap (λ b. not (b && list_any (λ (y : OpenInstance). is_named i y && made_by m y) then.opened)) (number_test m.group f.group (number_eq m.group group here ∙ sym (number_eq f.group group h))) ∙ ap not (any_one (is_named i) (made_by m) then.opened x (k.trees.one_named a i) e)) then.makes
        ∙ (by_mode x (state.is_make x.grant.mode) refl
        ∙ (ap (λ cs. cond (state.is_make x.grant.mode) (without_make x.grant.call cs) cs) (k.trees.makes a group)
        ∙ ap (λ y. without_made y (t a).makes) (sym (instance h x e))))

    ends : (b : Bool) → (f.group == group) ≡ b → made group (filter stay then.makes) ≡ (cond b (released_in i f stamp (t a)) (t a)).makes
    ends true h = ended h (find (is_named i) then.opened) refl
    ends false h = apart h ∙ k.trees.makes a group

    own : MakesAfter c (says.Release a i f stamp) before p a group
    own = ap (λ (u : Epoch). makes_in u group) (at_own (released i f stamp) (λ u. refl) q a formed ∙ ap (released i f stamp) (same a))
        ∙ (ends (f.group == group) refl
        ∙ sym (ap (λ b. (cond (b && (f.group == (t a).group)) (released_in i f stamp (t a)) (t a)).makes) (is_own c a group before) ∙ ap (λ n. (cond (f.group == n) (released_in i f stamp (t a)) (t a)).makes) (group_is c a group before)))

    other : same_epoch e a ≡ false → MakesAfter c (says.Release a i f stamp) before p e group
    other h = ap (λ (u : Epoch). makes_in u group) (at_other (released i f stamp) (λ u. refl) q a e h ∙ same e)
        ∙ (k.trees.makes e group
        ∙ sym (ap (λ b. (cond (b && (f.group == (t e).group)) (released_in i f stamp (t e)) (t e)).makes) (is_other c a e group before h)))

pub makes_step : (c : Config) (r : Record) (before : Trace) (p : Past) → MayCome c before r → Agrees c before p → (e : EpochId) (group : ℕ) → MakesAfter c r before p e group
makes_step c (says.Up s b) before p may k e group = still c (says.Up s b) before p k e group tt (λ t ns. refl)
makes_step c (says.Stopped s w) before p may k e group = still c (says.Stopped s w) before p k e group (λ t ls. refl) (λ t ns. refl)
makes_step c (says.Leave s a) before p may k e group = still c (says.Leave s a) before p k e group (λ t ls. refl) (λ t ns. refl)
makes_step c (says.Join s a m) before p may k e group = still c (says.Join s a m) before p k e group (λ t m. refl, λ t js vs. refl) (λ t ns. refl, λ t m ns cs bs. refl)
makes_step c (says.Start a g bs) before p may k e group = still c (says.Start a g bs) before p k e group (λ t gs. refl) (λ t. refl)
makes_step c (says.Accept s q id words) before p may k e group = still c (says.Accept s q id words) before p k e group (λ t w. refl) (λ t cs. refl)
makes_step c (says.Look a id n f w result) before p may k e group = still c (says.Look a id n f w result) before p k e group tt tt
makes_step c (says.Grant a id n i m f stamp ss) before p may k e group = still c (says.Grant a id n i m f stamp ss) before p k e group (λ t gs xs. refl) (λ t gs xs. refl)
makes_step c (says.Refuse a id n i m f why) before p may k e group = makes_refuse c before p a id n i m f why may k e group
makes_step c (says.Act a i n o result) before p may k e group = makes_act c before p a i n o result may k e group
makes_step c (says.Commit f s stamp ps content) before p may k e group = still c (says.Commit f s stamp ps content) before p k e group (λ t xs. refl) (λ t cs xs. refl)
makes_step c (says.Release a i f stamp) before p may k e group = makes_release c before p a i f stamp may k e group
makes_step c (says.Adopt f s stamp) before p may k e group = still c (says.Adopt f s stamp) before p k e group tt (λ t cs. refl)
makes_step c (says.Answer s q id r) before p may k e group = still c (says.Answer s q id r) before p k e group (λ t w fs. refl) tt
makes_step c (says.Packet n from to kind) before p may k e group = still c (says.Packet n from to kind) before p k e group tt tt
makes_step c says.Void before p may k e group = still c says.Void before p k e group tt tt
makes_step c says.Budget before p may k e group = still c says.Budget before p k e group tt tt
