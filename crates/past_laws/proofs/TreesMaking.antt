-- The makes underway are of accepted calls.
use Rattle.std.proofs.Common.{◌≡◌, ℕ, ◌==◌, Bool, true, false, not, cond, ◌&&◌, ◌++◌, List, [], ◌∷◌, filter, Option, refl, ap, ◌∙◌}
use Rattle.std.specs.Prelude.{fold}
use Rattle.std.specs.List.{list_any, list_all}
use Rattle.locus_ids.specs.declared.config.Config.{Config}
use Rattle.locus_ids.specs.declared.ids.CallId.{CallId}
use Rattle.locus_ids.specs.declared.ids.EpochId.{EpochId}
use Rattle.locus_ids.specs.declared.ids.FileId.{FileId}
use Rattle.locus_ids.specs.declared.ids.Mode.{Mode}
use Rattle.locus_ids.specs.declared.ids.Serial.{Serial}
use Rattle.locus_ids.specs.declared.ids.Stamp.{Stamp}
use Rattle.trace_book.specs.Same.{same_epoch}
use Rattle.trace_book.specs.declared.operation.Op.{Op}
use Rattle.trace_book.specs.declared.operation.Outcome.{Outcome}
use Rattle.trace_book.specs.declared.record.Record.{Record}
use Rattle.trace_book.specs.declared.record.Record.TheVariants as says
use Rattle.tree_model.specs.Folds.{Trace}
use Rattle.tree_model.specs.Histories.{history}
use Rattle.tree_model.specs.State.{TreeState}
use Rattle.tree_model.specs.State as state
use Rattle.tree_model.specs.Tree.{tree_of}
use Rattle.promises.specs.of_lawful_trace.Lawful.{MayCome}
use Rattle.promises.specs.of_lawful_trace.TreeRows.{granted_group}
use Rattle.promises.specs.of_lawful_trace.Progress.{outcome_answer}
use Rattle.promises.specs.Past.{Past, Epoch, Instance as OpenInstance, epoch_at, is_named, first_or, unformed}
use Rattle.promises.specs.After.{after, acted, answered, is_actor, is_ender, close_answer, released, is_epoch, change_epoch}
use Rattle.past_laws.specs.Agreement.{Agrees}
use Rattle.past_laws.proofs.Names.{both, both_parts}
use Rattle.past_laws.proofs.TreesAt.{is_formed, at_own, at_other, by_epoch, answers_kept, SaveCalls}
use Rattle.past_laws.proofs.TreesKept.{IsBlind}
use Rattle.past_laws.proofs.TreesOpened.{formed_open}
use Rattle.trace_book.specs.Same.{same_call}
use Rattle.locus_ids.specs.declared.refusal.Refusal.{Refusal}
use Rattle.tree_model.specs.Tree.{is_passed_probe}
use Rattle.promises.specs.Past.{Make}
use Rattle.promises.specs.After.{begun_make}
use Rattle.past_laws.proofs.TreesFormed.{formed_served}
use Rattle.past_laws.proofs.TreesOpenedSteps.{gives_some}
use Rattle.past_laws.proofs.TreesMakes.{begun_is}
use Rattle.promises.specs.After.{is_id}
use Rattle.past_laws.proofs.TreesKept.{told_kept}
use Rattle.past_laws.proofs.TreesOpenedSteps.{ends_some}
use Rattle.past_laws.proofs.TreesLists.{all_filter, all_more}
use Rattle.past_laws.proofs.TreesNamed.{calls_grow}

later : (c : Config) (r : Record) (p : Past) (ms : List Make) → list_all (λ (m : Make). list_any (is_id m.call) p.calls) ms ≡ true → list_all (λ (m : Make). list_any (is_id m.call) (after c r p).calls) ms ≡ true
later c r p ms h = all_more (λ (m : Make). list_any (is_id m.call) p.calls) (λ (m : Make). list_any (is_id m.call) (after c r p).calls) (λ m j. calls_grow c r p m.call j) ms h

abbrev pub MakingAfter : Config → Record → Past → EpochId → Type 0
MakingAfter c r p e = list_all (λ (m : Make). list_any (is_id m.call) (after c r p).calls) (epoch_at (after c r p) e).makes ≡ true

still : (c : Config) (r : Record) (before : Trace) (p : Past) → Agrees c before p → (e : EpochId) → IsBlind (λ (t : Epoch). t.makes) r → MakingAfter c r p e
still c r before p k e blind = ap (λ ms. list_all (λ (m : Make). list_any (is_id m.call) (after c r p).calls) ms) (told_kept (λ (t : Epoch). t.makes) c r p blind e) ∙ later c r p (epoch_at p e).makes (k.trees.making e)

begin : (q : CallId → Bool) (o : Op) (result : Outcome) (xs : List OpenInstance) (ms : List Make) → list_all (λ (x : OpenInstance). q x.grant.call) xs ≡ true → list_all (λ (m : Make). q m.call) ms ≡ true → list_all (λ (m : Make). q m.call) (fold (λ old y. begun_make o result y ++ old) ms xs) ≡ true
begin q o result [] ms h j = j
begin q o result (x ∷ xs) ms h j = begin q o result xs (begun_make o result x ++ ms) (both_parts (q x.grant.call) (list_all (λ (x : OpenInstance). q x.grant.call) xs) h).1 (ap (λ ys. list_all (λ (m : Make). q m.call) (ys ++ ms)) (begun_is o result x) ∙ at (is_passed_probe o result))
  where
    at : (b : Bool) → list_all (λ (m : Make). q m.call) (cond b (record { call = x.grant.call; group = x.grant.file.group } ∷ []) [] ++ ms) ≡ true
    at true = both (q x.grant.call) (list_all (λ (m : Make). q m.call) ms) (both_parts (q x.grant.call) (list_all (λ (x : OpenInstance). q x.grant.call) xs) h).0 j
    at false = j

making_act : (c : Config) (before : Trace) (p : Past) (a : EpochId) (i : Serial) (n : ℕ) (o : Op) (result : Outcome) → MayCome c before (says.Act a i n o result) → Agrees c before p → (e : EpochId) → MakingAfter c (says.Act a i n o result) p e
making_act c before p a i n o result may k e = by_epoch (λ x. MakingAfter c (says.Act a i n o result) p x) a e own other
  where
    q : Past
    q = answered (is_actor (epoch_at p a) i n) (outcome_answer result) p

    is_called : CallId → Bool
    is_called d = list_any (is_id d) (after c (says.Act a i n o result) p).calls

    becomes : epoch_at (after c (says.Act a i n o result) p) a ≡ acted i o result p (epoch_at p a)
    becomes = at_own (acted i o result p) (λ u. refl) q a (formed_open c before p k a (granted_group before a i) i (gives_some (history c before) (tree_of c a (granted_group before a i) before) i n o result may.gives))

    own : MakingAfter c (says.Act a i n o result) p a
    own = ap (λ (u : Epoch). list_all (λ (m : Make). is_called m.call) u.makes) becomes
        ∙ begin is_called o result (filter (is_named i) (epoch_at p a).opened) (epoch_at p a).makes
        (all_filter (λ (x : OpenInstance). is_called x.grant.call) (is_named i) (epoch_at p a).opened (all_more (λ (x : OpenInstance). list_any (is_id x.grant.call) p.calls) (λ (x : OpenInstance). is_called x.grant.call) (λ x j. calls_grow c (says.Act a i n o result) p x.grant.call j) (epoch_at p a).opened (k.trees.called a)))
        (later c (says.Act a i n o result) p (epoch_at p a).makes (k.trees.making a))

    other : same_epoch e a ≡ false → MakingAfter c (says.Act a i n o result) p e
    other h = ap (λ (u : Epoch). list_all (λ (m : Make). is_called m.call) u.makes) (at_other (acted i o result p) (λ u. refl) q a e h) ∙ later c (says.Act a i n o result) p (epoch_at p e).makes (k.trees.making e)

-- some are taken out
less : (c : Config) (r : Record) (before : Trace) (p q : Past) → Agrees c before p → (a e : EpochId) (f : Epoch → Epoch) (keep : Epoch → Make → Bool) → ((t : Epoch) → (f t).id ≡ t.id) → ((t : Epoch) → (f t).makes ≡ filter (keep t) t.makes) → ((x : EpochId) → epoch_at q x ≡ epoch_at p x) → is_formed q a ≡ true → (epoch_at (after c r p) e).makes ≡ (epoch_at (change_epoch (is_epoch a) f q) e).makes → MakingAfter c r p e
less c r before p q k a e f keep ids makes same formed is = ap (λ ms. list_all is_called ms) is ∙ by_epoch (λ x. list_all is_called (epoch_at (change_epoch (is_epoch a) f q) x).makes ≡ true) a e own other
  where
    is_called : Make → Bool
    is_called m = list_any (is_id m.call) (after c r p).calls

    own : list_all is_called (epoch_at (change_epoch (is_epoch a) f q) a).makes ≡ true
    own = ap (λ (u : Epoch). list_all is_called u.makes) (at_own f ids q a formed ∙ ap f (same a)) ∙ (ap (list_all is_called) (makes (epoch_at p a)) ∙ all_filter is_called (keep (epoch_at p a)) (epoch_at p a).makes (later c r p (epoch_at p a).makes (k.trees.making a)))

    other : same_epoch e a ≡ false → list_all is_called (epoch_at (change_epoch (is_epoch a) f q) e).makes ≡ true
    other h = ap (λ (u : Epoch). list_all is_called u.makes) (at_other f ids q a e h ∙ same e) ∙ later c r p (epoch_at p e).makes (k.trees.making e)

making_refuse : (c : Config) (before : Trace) (p : Past) (a : EpochId) (id : CallId) (n : ℕ) (i : Serial) (m : Mode) (f : FileId) (why : Refusal) → MayCome c before (says.Refuse a id n i m f why) → Agrees c before p → (e : EpochId) → MakingAfter c (says.Refuse a id n i m f why) p e
making_refuse c before p a id n i m f why may k e = less c (says.Refuse a id n i m f why) before p p k a e (λ (t : Epoch). record t { makes = filter ends t.makes }) (λ t. ends) (λ t. refl) (λ t. refl) (λ x. refl) (formed_served c before p k.epochs a f.group may.opens.served) refl
  where
    ends : Make → Bool
    ends d = not (state.is_make m && ((d.group == f.group) && same_call d.call id))

making_release : (c : Config) (before : Trace) (p : Past) (a : EpochId) (i : Serial) (f : FileId) (stamp : Option Stamp) → MayCome c before (says.Release a i f stamp) → Agrees c before p → (e : EpochId) → MakingAfter c (says.Release a i f stamp) p e
making_release c before p a i f stamp may k e = less c (says.Release a i f stamp) before p q k a e (released i f stamp) stay (λ t. refl) (λ t. refl) (λ x. ap (first_or (unformed x) (is_epoch x)) calls.epochs)
    (ap (list_any (is_epoch a)) calls.epochs ∙ formed_open c before p k a f.group i (ends_some (history c before) (tree_of c a f.group before) i f stamp may.gives)) refl
  where
    q : Past
    q = fold (λ old x. answered (is_ender (epoch_at p a) i) (close_answer stamp x) old) p (filter (is_named i) (epoch_at p a).opened)

    calls : SaveCalls p q
    calls = answers_kept (is_ender (epoch_at p a) i) (close_answer stamp) (filter (is_named i) (epoch_at p a).opened) p

    stay : Epoch → Make → Bool
    stay t m = not ((m.group == f.group) && list_any (λ (x : OpenInstance). is_named i x && (state.is_make x.grant.mode && same_call x.grant.call m.call)) t.opened)

pub making_step : (c : Config) (r : Record) (before : Trace) (p : Past) → MayCome c before r → Agrees c before p → (e : EpochId) → MakingAfter c r p e
making_step c (says.Up s b) before p may k e = still c (says.Up s b) before p k e tt
making_step c (says.Stopped s w) before p may k e = still c (says.Stopped s w) before p k e (λ t ls. refl)
making_step c (says.Leave s a) before p may k e = still c (says.Leave s a) before p k e (λ t ls. refl)
making_step c (says.Join s a m) before p may k e = still c (says.Join s a m) before p k e (λ t m. refl, λ t js vs. refl)
making_step c (says.Start a g bs) before p may k e = still c (says.Start a g bs) before p k e (λ t gs. refl)
making_step c (says.Accept s q id words) before p may k e = still c (says.Accept s q id words) before p k e (λ t w. refl)
making_step c (says.Look a id n f w result) before p may k e = still c (says.Look a id n f w result) before p k e tt
making_step c (says.Grant a id n i m f stamp ss) before p may k e = still c (says.Grant a id n i m f stamp ss) before p k e (λ t gs xs. refl)
making_step c (says.Refuse a id n i m f why) before p may k e = making_refuse c before p a id n i m f why may k e
making_step c (says.Act a i n o result) before p may k e = making_act c before p a i n o result may k e
making_step c (says.Commit f s stamp ps content) before p may k e = still c (says.Commit f s stamp ps content) before p k e (λ t xs. refl)
making_step c (says.Release a i f stamp) before p may k e = making_release c before p a i f stamp may k e
making_step c (says.Adopt f s stamp) before p may k e = still c (says.Adopt f s stamp) before p k e tt
making_step c (says.Answer s q id r) before p may k e = still c (says.Answer s q id r) before p k e (λ t w fs. refl)
making_step c (says.Packet n from to kind) before p may k e = still c (says.Packet n from to kind) before p k e tt
making_step c says.Void before p may k e = still c says.Void before p k e tt
making_step c says.Budget before p may k e = still c says.Budget before p k e tt
