-- What a remove has seen stays while it is asked: nobody works on its target, and nobody closes what it is asked of.
use Rattle.std.proofs.Common.{◌≡◌, ℕ, ◌==◌, Bool, true, false, cond, ◌&&◌, List, [], ◌∷◌, ◌++◌, Option, Some, None, refl, sym, ◌∙◌, ap, subst, ◌⊎◌, inl, inr, ⊎_elim}
use Rattle.std.specs.List.{find}
use Rattle.the_run.proofs.of_plain_facts.Options.{none_some, some_same}
use Rattle.the_run.proofs.of_plain_facts.Tests.{true_false}
use Rattle.locus_ids.specs.declared.config.Config.{Config}
use Rattle.locus_ids.specs.declared.ids.CallId.{CallId}
use Rattle.locus_ids.specs.declared.ids.EpochId.{EpochId}
use Rattle.locus_ids.specs.declared.ids.FileId.{FileId}
use Rattle.locus_ids.specs.declared.ids.Mode.{Mode}
use Rattle.locus_ids.specs.declared.ids.Serial.{Serial}
use Rattle.locus_ids.specs.declared.ids.Stamp.{Stamp}
use Rattle.commit_graph.specs.declared.history.Version.{Version}
use Rattle.trace_book.specs.Same.{same_call, same_epoch, same_serial}
use Rattle.trace_book.specs.declared.operation.Op.{Op}
use Rattle.trace_book.specs.declared.operation.Op.TheVariants as op
use Rattle.trace_book.specs.declared.operation.Outcome.{Outcome}
use Rattle.trace_book.specs.declared.record.Record.{Record}
use Rattle.trace_book.specs.declared.record.Record.TheVariants as says
use Rattle.call_rules.specs.declared.want.Want.TheVariants as want
use Rattle.the_run.specs.of_role_steps.Own.{Every}
use Rattle.the_run.specs.of_role_steps.Views.{Told, Shown}
use Rattle.the_run.specs.Worlds.{Line}
use Rattle.lawful_trace.specs.of_tree_model.declared.instance.Granted.{Granted}
use Rattle.lawful_trace.specs.of_tree_model.declared.instance.Instance.{Instance}
use Rattle.lawful_trace.specs.of_tree_model.Calls.{granted_to}
use Rattle.lawful_trace.specs.of_tree_model.Folds.{Trace}
use Rattle.lawful_trace.specs.of_tree_model.Histories.{history}
use Rattle.lawful_trace.specs.of_tree_model.Lists.{change_first, without_first}
use Rattle.lawful_trace.specs.of_tree_model.State.{TreeState, is_named, is_writer, is_inside, is_granted_here, is_make}
use Rattle.lawful_trace.specs.of_tree_model.Tree.{next, tree_of, joined, left, grant_of, opened, once_committed, once_acted, without_make}
use Rattle.lawful_trace.specs.of_tree_model.Working.{is_target}
use Rattle.lawful_trace.specs.Progress.{outcome_answer}
use Rattle.lawful_trace.specs.Tables.{is_call, uses_of, use_number, close_of, unless_named, call_of_act, call_of_release}
use Rattle.tree_laws.specs.Printed.{entries, onto_entries}
use Rattle.tree_laws.specs.Calls.{log, heard, Asks}
use Rattle.tree_laws.specs.Following.{MayTell, IsFollowed}
use Rattle.tree_laws.specs.Frames.{VersionsStay, OwnersStay}
use Rattle.tree_laws.specs.Instances.{instance_now}
use Rattle.tree_laws.specs.Packets.{SeesTarget, SeesFor}
use Rattle.tree_laws.proofs.Alone.{asking, alone}
use Rattle.tree_laws.proofs.Answered.{asker_unnamed}
use Rattle.tree_laws.proofs.Asking.{not_longer}
use Rattle.tree_laws.proofs.Boots.{every_both}
use Rattle.tree_laws.proofs.CarriedLooks.{one_want}
use Rattle.tree_laws.proofs.Finds.{IsChanged, find_changed, find_added}
use Rattle.tree_laws.proofs.Grants.{open_named}
use Rattle.tree_laws.proofs.Kinship.{StaysOpen, Ends, open_stays, tree_epoch_is}
use Rattle.tree_laws.proofs.Names.{same_call_eq, same_call_own, same_epoch_eq, same_epoch_own, same_serial_eq, same_serial_own}
use Rattle.tree_laws.proofs.Opened.{EndsIt}
use Rattle.tree_laws.proofs.Owing.{GrantHas, grants_have, found_every, owed_where}
use Rattle.tree_laws.proofs.Owners.{granted_same}

abbrev More : ℕ → Told → List Line → List Line
More n x older = record { number = n; told = x } ∷ older

do_not_close : (i j : Serial) (o : Op) → want.Do i o ≡ want.Close j → ⊥
do_not_close i j o e = cc

-- ---- who was granted what is open ----

-- the instance is that of the call that it was granted to
abbrev IsGrantedTo : Trace → EpochId → Granted → Type 0
IsGrantedTo before e g = granted_to before e g.inst ≡ Some g.call

granted_new : (c : Config) (n : ℕ) (r : Record) (older : List Line) (e : EpochId) (t : TreeState) → t.epoch ≡ e → GrantHas (IsGrantedTo (record { line = n; what = r } ∷ entries older) e) t r
granted_new c n (says.Grant at call request i m f stamp ss) older e t is = λ same group. over at (same ∙ is)
  where
    over : (y : EpochId) → y ≡ e → cond (same_epoch y e && same_serial i i) (Some call) (granted_to (entries older) e i) ≡ Some call
    over y k = ap (λ (z : EpochId). cond (same_epoch z e && same_serial i i) (Some call) (granted_to (entries older) e i)) k
        ∙ (ap (λ (b : Bool). cond (b && same_serial i i) (Some call) (granted_to (entries older) e i)) (same_epoch_own e) ∙ ap (λ (b : Bool). cond b (Some call) (granted_to (entries older) e i)) (same_serial_own i))
granted_new c n _ older e t is = tt

pub are_granted : (c : Config) (trace : List Line) (e : EpochId) (g : ℕ) → IsFollowed c trace → Every (λ (x : Instance). IsGrantedTo (entries trace) e x.grant) (tree_of c e g (entries trace)).instances
are_granted c [] e g h = tt
are_granted c (x ∷ older) e g h = over x.told h.0 (are_granted c older e g h.1)
  where
    over : (y : Told) → MayTell c older y → Every (λ (z : Instance). IsGrantedTo (entries older) e z.grant) (tree_of c e g (entries older)).instances → Every (λ (z : Instance). IsGrantedTo (onto_entries x.number y (entries older)) e z.grant) (tree_of c e g (onto_entries x.number y (entries older))).instances
    over (Shown r) may k = (let t : TreeState = tree_of c e g (entries older) in
        grants_have (IsGrantedTo (record { line = x.number; what = r } ∷ entries older) e) (history c (entries older)) r t (granted_new c x.number r older e t (tree_epoch_is c e g (entries older)))
        (every_both (λ (z : Instance). IsGrantedTo (entries older) e z.grant) (λ (z : Instance). IsGrantedTo (record { line = x.number; what = r } ∷ entries older) e z.grant) t.instances
        (λ z p. granted_same c older x.number r e z.grant.inst z.grant.call may p) k))
    over _ may k = k

-- ---- what works on what is found ----

-- the record works on the instance that is found: does an operation of it, commits it or releases it
abbrev Touches : TreeState → Instance → Record → Type 0
Touches t old (says.Act at inst n o result) = (at ≡ t.epoch) × (old.grant.inst ≡ inst)
Touches t old (says.Release at inst f stamp) = (at ≡ t.epoch) × (old.grant.inst ≡ inst)
Touches t old (says.Commit f s stamp parents content) = (is_inside t s ≡ true) × (is_writer f s old ≡ true)
Touches t old _ = ⊥

-- what another test passes is taken out
find_beside : {X : Type 0} (p q : X → Bool) (xs : List X) (x : X) → find p xs ≡ Some x → (find p (without_first q xs) ≡ Some x) ⊎ (q x ≡ true)
find_beside p q [] x e = absurd (none_some x e)
find_beside {X} p q (y ∷ ys) x e = at (find_beside p q ys x) (q y) (p y) refl refl
  where
    at : (find p ys ≡ Some x → (find p (without_first q ys) ≡ Some x) ⊎ (q x ≡ true)) → (b a : Bool) → q y ≡ b → p y ≡ a → (find p (without_first q (y ∷ ys)) ≡ Some x) ⊎ (q x ≡ true)
    at later true true f t = inr (ap q (sym (some_same y x (rw t at e))) ∙ f)
    at later true false f t = inl (rw f (rw t at e))
    at later false true f t = inl (rw f (rw t (rw t at e)))
    at later false false f t = ⊎_elim (λ (k : find p (without_first q ys) ≡ Some x). inl (rw f (rw t k))) (λ (k : q x ≡ true). inr k) (later (rw t at e))

module _ (h : List Version) (t : TreeState) (d : CallId) (ino : ℕ) (old : Instance) (k : find (is_target d ino) t.instances ≡ Some old) where
  both : (a b : Bool) → a && b ≡ true → a ≡ true
  both true b f = refl
  both false b f = absurd (true_false (sym f))

  target_act : (at : EpochId) (inst : Serial) (n : ℕ) (o : Op) (result : Outcome) → (find (is_target d ino) (next h (says.Act at inst n o result) t).instances ≡ Some old) ⊎ Touches t old (says.Act at inst n o result)
  target_act at inst n o result = over (same_epoch at t.epoch && is_granted_here t inst) refl
    where
      changed : same_epoch at t.epoch && is_granted_here t inst ≡ true → (find (is_target d ino) (change_first (is_named inst) (once_acted h t o result) t.instances) ≡ find (is_target d ino) t.instances) ⊎ IsChanged (is_target d ino) (is_named inst) (once_acted h t o result) t.instances →
          (find (is_target d ino) (next h (says.Act at inst n o result) t).instances ≡ Some old) ⊎ Touches t old (says.Act at inst n o result)
      changed b (inl f) = inl (rw b (f ∙ k))
      changed b (inr f) = inr (same_epoch_eq at t.epoch (both (same_epoch at t.epoch) (is_granted_here t inst) b), same_serial_eq old.grant.inst inst (subst (λ (x : Instance). is_named inst x ≡ true) (some_same f.old old (sym f.was ∙ k)) f.passes))

      over : (b : Bool) → same_epoch at t.epoch && is_granted_here t inst ≡ b → (find (is_target d ino) (next h (says.Act at inst n o result) t).instances ≡ Some old) ⊎ Touches t old (says.Act at inst n o result)
      over true b = changed b (find_changed (is_target d ino) (is_named inst) (once_acted h t o result) (λ x. refl) t.instances)
      over false b = inl (rw b k)

  target_commit : (f : FileId) (s : ℕ) (stamp : Stamp) (parents : List Stamp) (content : List ℕ) → (find (is_target d ino) (next h (says.Commit f s stamp parents content) t).instances ≡ Some old) ⊎ Touches t old (says.Commit f s stamp parents content)
  target_commit f s stamp parents content = over (is_inside t s) refl
    where
      changed : is_inside t s ≡ true → (find (is_target d ino) (change_first (is_writer f s) (once_committed stamp) t.instances) ≡ find (is_target d ino) t.instances) ⊎ IsChanged (is_target d ino) (is_writer f s) (once_committed stamp) t.instances →
          (find (is_target d ino) (next h (says.Commit f s stamp parents content) t).instances ≡ Some old) ⊎ Touches t old (says.Commit f s stamp parents content)
      changed b (inl g) = inl (rw b (g ∙ k))
      changed b (inr g) = inr (b, subst (λ (x : Instance). is_writer f s x ≡ true) (some_same g.old old (sym g.was ∙ k)) g.passes)

      over : (b : Bool) → is_inside t s ≡ b → (find (is_target d ino) (next h (says.Commit f s stamp parents content) t).instances ≡ Some old) ⊎ Touches t old (says.Commit f s stamp parents content)
      over true b = changed b (find_changed (is_target d ino) (is_writer f s) (once_committed stamp) (λ x. refl) t.instances)
      over false b = inl (rw b k)

  target_release : (at : EpochId) (inst : Serial) (f : FileId) (stamp : Option Stamp) → (find (is_target d ino) (next h (says.Release at inst f stamp) t).instances ≡ Some old) ⊎ Touches t old (says.Release at inst f stamp)
  target_release at inst f stamp = over (same_epoch at t.epoch && (f.group == t.group)) refl
    where
      beside : same_epoch at t.epoch && (f.group == t.group) ≡ true → (find (is_target d ino) (without_first (is_named inst) t.instances) ≡ Some old) ⊎ (is_named inst old ≡ true) → (find (is_target d ino) (next h (says.Release at inst f stamp) t).instances ≡ Some old) ⊎ Touches t old (says.Release at inst f stamp)
      beside b (inl g) = inl (rw b g)
      beside b (inr g) = inr (same_epoch_eq at t.epoch (both (same_epoch at t.epoch) (f.group == t.group) b), same_serial_eq old.grant.inst inst g)

      over : (b : Bool) → same_epoch at t.epoch && (f.group == t.group) ≡ b → (find (is_target d ino) (next h (says.Release at inst f stamp) t).instances ≡ Some old) ⊎ Touches t old (says.Release at inst f stamp)
      over true b = beside b (find_beside (is_target d ino) (is_named inst) t.instances old k)
      over false b = inl (rw b k)

  target_grant : (at : EpochId) (call : CallId) (request : ℕ) (i : Serial) (m : Mode) (f : FileId) (stamp : Option Stamp) (ss : ℕ) → find (is_target d ino) (next h (says.Grant at call request i m f stamp ss) t).instances ≡ Some old
  target_grant at call request i m f stamp ss = over (same_epoch at t.epoch) (f.group == t.group)
    where
      g : Granted
      g = grant_of t call i m f ss

      over : (a b : Bool) → find (is_target d ino) (cond a (record t { grants = t.grants ++ g ∷ []; instances = cond b (t.instances ++ opened h g stamp ∷ []) t.instances }) t).instances ≡ Some old
      over true true = find_added (is_target d ino) t.instances (opened h g stamp ∷ []) old k
      over true false = k
      over false b = k

  -- what is found is found as it was, or the record works on it
  target_next : (r : Record) → (find (is_target d ino) (next h r t).instances ≡ Some old) ⊎ Touches t old r
  target_next (says.Join s e m) = inl (over (same_epoch e t.epoch))
    where
      over : (b : Bool) → find (is_target d ino) (cond b (joined s m t) (left s t)).instances ≡ Some old
      over true = k
      over false = k
  target_next (says.Start e group copies) = inl (over (same_epoch e t.epoch && (group == t.group)))
    where
      over : (b : Bool) → find (is_target d ino) (cond b (record t { started = true }) t).instances ≡ Some old
      over true = k
      over false = k
  target_next (says.Refuse e call request i m f why) = inl (over (same_epoch e t.epoch && ((f.group == t.group) && is_make m)))
    where
      over : (b : Bool) → find (is_target d ino) (cond b (record t { makes = without_make call t.makes }) t).instances ≡ Some old
      over true = k
      over false = k
  target_next (says.Grant at call request i m f stamp ss) = inl (target_grant at call request i m f stamp ss)
  target_next (says.Act at inst n o result) = target_act at inst n o result
  target_next (says.Commit f s stamp parents content) = target_commit f s stamp parents content
  target_next (says.Release at inst f stamp) = target_release at inst f stamp
  target_next _ = inl k

-- ---- nothing works on the target ----

module _ (c : Config) (n : ℕ) (older : List Line) (h : IsFollowed c older) (e : EpochId) (d : CallId) (i : Serial) (o : Op) (asks : Asks c older d (want.Do i o)) where
  -- what was granted to the call is its own: no descriptor has named it
  own_act : (inst : Serial) (number : ℕ) → granted_to (entries older) e inst ≡ Some d → call_of_act (entries older) e inst number ≡ Some d
  own_act inst number g = ap (unless_named (entries older) (use_number (uses_of (entries older) e inst) number)) g ∙ ap (λ (b : Bool). cond b (use_number (uses_of (entries older) e inst) number) (Some d)) (asker_unnamed c older d h (asking c older d (want.Do i o) asks))

  own_release : (inst : Serial) → granted_to (entries older) e inst ≡ Some d → call_of_release (entries older) e inst ≡ Some d
  own_release inst g = ap (unless_named (entries older) (close_of (entries older) e inst)) g ∙ ap (λ (b : Bool). cond b (close_of (entries older) e inst) (Some d)) (asker_unnamed c older d h (asking c older d (want.Do i o) asks))

  untouched : (r : Record) → MayTell c older (Shown r) → Asks c (More n (Shown r) older) d (want.Do i o) → (g : ℕ) (ino : ℕ) (target : Instance) → find (is_target d ino) (tree_of c e g (entries older)).instances ≡ Some target → granted_to (entries older) e target.grant.inst ≡ Some d → target.work.owes ≡ false → Touches (tree_of c e g (entries older)) target r → ⊥
  untouched (says.Act at inst number what result) may later g ino target found granted owes touch = not_longer (log older d) (heard c older d) (outcome_answer result) (sym asks.nothing_waits) (sym later.nothing_waits ∙ heard_more)
    where
      owner : call_of_act (entries older) at inst number ≡ Some d
      owner = subst (λ (y : EpochId). call_of_act (entries older) y inst number ≡ Some d) (sym (touch.0 ∙ tree_epoch_is c e g (entries older))) (own_act inst number (subst (λ (j : Serial). granted_to (entries older) e j ≡ Some d) touch.1 granted))

      heard_more : heard c (More n (Shown (says.Act at inst number what result)) older) d ≡ heard c older d ++ outcome_answer result ∷ []
      heard_more = ap (λ (x : Option CallId). cond (is_call x d) (heard c older d ++ outcome_answer result ∷ []) (heard c older d)) owner ∙ ap (λ (b : Bool). cond b (heard c older d ++ outcome_answer result ∷ []) (heard c older d)) (same_call_own d)
  untouched (says.Release at inst f stamp) may later g ino target found granted owes touch = do_not_close i inst o (one_want c older d (want.Do i o) (want.Close inst) asks (subst (λ (y : CallId). Asks c older y (want.Close inst)) (some_same may.in_time.call d (sym may.in_time.owner ∙ owner)) may.in_time.asks))
    where
      owner : call_of_release (entries older) at inst ≡ Some d
      owner = subst (λ (y : EpochId). call_of_release (entries older) y inst ≡ Some d) (sym (touch.0 ∙ tree_epoch_is c e g (entries older))) (own_release inst (subst (λ (j : Serial). granted_to (entries older) e j ≡ Some d) touch.1 granted))
  untouched (says.Commit f s stamp parents content) may later g ino target found granted owes touch = true_false (sym (owed_where c older e g (is_target d ino) target f s stamp parents content may found touch.0 touch.1) ∙ owes)
  untouched _ may later g ino target found granted owes touch = touch

found_passes : {A : Type 0} (p : A → Bool) (xs : List A) (x : A) → find p xs ≡ Some x → p x ≡ true
found_passes p [] x e = absurd (none_some x e)
found_passes p (y ∷ ys) x e = at (λ (k : find p ys ≡ Some x). found_passes p ys x k) (p y) refl e
  where
    at : (find p ys ≡ Some x → p x ≡ true) → (b : Bool) → p y ≡ b → cond b (Some y) (find p ys) ≡ Some x → p x ≡ true
    at later true t k = ap p (sym (some_same y x k)) ∙ t
    at later false t k = later k

-- ---- what a remove has seen ----

target_stays : (c : Config) (n : ℕ) (x : Told) (older : List Line) → IsFollowed c older → MayTell c older x → VersionsStay c older (More n x older) → (e : EpochId) (d : CallId) (i : Serial) (number : ℕ) (o : Op) (ino : ℕ) (seen : List ℕ) →
    Asks c older d (want.Do i o) → Asks c (More n x older) d (want.Do i o) → call_of_act (entries older) e i number ≡ Some d → SeesTarget c older e d i ino seen → SeesTarget c (More n x older) e d i ino seen
target_stays c n x older h may versions e d i number o ino seen asks later owner k = over x may versions later (open_stays c older n x e i k.at may (open_named c older e i k.at k.found) k.found)
  where
    g : ℕ
    g = k.at.grant.file.group

    t : TreeState
    t = tree_of c e g (entries older)

    call_of_target : (a b : Bool) → a && b ≡ true → a ≡ true
    call_of_target true b f = refl
    call_of_target false b f = absurd (true_false (sym f))

    granted : granted_to (entries older) e k.target.grant.inst ≡ Some d
    granted = found_every (λ (y : Instance). IsGrantedTo (entries older) e y.grant) (is_target d ino) t.instances k.target k.is_target (are_granted c older e g h)
        ∙ ap Some (same_call_eq k.target.grant.call d (call_of_target (same_call k.target.grant.call d) (k.target.grant.file.ino == ino) (found_passes (is_target d ino) t.instances k.target k.is_target)))

    still : (y : Told) → VersionsStay c older (More n y older) → (new : Instance) → instance_now c (More n y older) e i ≡ Some new → new.grant ≡ k.at.grant → find (is_target d ino) (tree_of c e g (entries (More n y older))).instances ≡ Some k.target → SeesTarget c (More n y older) e d i ino seen
    still y v new found same target = record {
      at = new;
      found = found;
      target = k.target;
      is_target = subst (λ (a : Granted). find (is_target d ino) (tree_of c e a.file.group (entries (More n y older))).instances ≡ Some k.target) (sym same) target;
      owes = k.owes;
      stamp = k.stamp;
      last = k.last;
      stands = v.stands k.target.grant.file k.stamp k.stands;
      seen_is = k.seen_is ∙ sym (v.vectors k.target.grant.file k.stamp k.stands);
    }

    ended : (r : Record) → MayTell c older (Shown r) → EndsIt e i r → ⊥
    ended (says.Release at inst file stamp) m end = alone c older e i number d m.in_time.call o h asks owner (subst (λ (j : Serial). Asks c older m.in_time.call (want.Close j)) end.1 m.in_time.asks)
        (subst (λ (j : Serial). call_of_release (entries older) e j ≡ Some m.in_time.call) end.1 (subst (λ (y : EpochId). call_of_release (entries older) y inst ≡ Some m.in_time.call) end.0 m.in_time.owner))
    ended _ m end = absurd end

    shown : (r : Record) → MayTell c older (Shown r) → VersionsStay c older (More n (Shown r) older) → Asks c (More n (Shown r) older) d (want.Do i o) → (s : StaysOpen c older n (Shown r) e i k.at) → (find (is_target d ino) (next (history c (entries older)) r t).instances ≡ Some k.target) ⊎ Touches t k.target r → SeesTarget c (More n (Shown r) older) e d i ino seen
    shown r m v l s (inl found) = still (Shown r) v s.new s.found s.grant_same found
    shown r m v l s (inr touch) = absurd (untouched c n older h e d i o asks r m l g ino k.target k.is_target granted k.owes touch)

    over : (y : Told) → MayTell c older y → VersionsStay c older (More n y older) → Asks c (More n y older) d (want.Do i o) → StaysOpen c older n y e i k.at ⊎ Ends e i y → SeesTarget c (More n y older) e d i ino seen
    over (Shown r) m v l (inl s) = shown r m v l s (target_next (history c (entries older)) t d ino k.target k.is_target r)
    over (Shown r) m v l (inr end) = absurd (ended r m end)
    over y m v l (inl s) = still y v s.new s.found s.grant_same k.is_target
    over _ m v l (inr end) = absurd end

sees_stays : (c : Config) (n : ℕ) (x : Told) (older : List Line) → IsFollowed c older → MayTell c older x → VersionsStay c older (More n x older) → (e : EpochId) (d : CallId) (i : Serial) (number : ℕ) (o : Op) (seen : List ℕ) →
    Asks c older d (want.Do i o) → Asks c (More n x older) d (want.Do i o) → call_of_act (entries older) e i number ≡ Some d → SeesFor c older e d i o seen → SeesFor c (More n x older) e d i o seen
sees_stays c n x older h may versions e d i number (op.Remove name ino) seen asks later owner k = target_stays c n x older h may versions e d i number (op.Remove name ino) ino seen asks later owner k
sees_stays c n x older h may versions e d i number _ seen asks later owner k = tt

-- one call at a time asks something of an instance, and what a remove has seen stays while it is asked
pub owners_stay : (c : Config) (n : ℕ) (x : Told) (older : List Line) → IsFollowed c older → MayTell c older x → VersionsStay c older (More n x older) → OwnersStay c older (More n x older)
owners_stay c n x older h may versions = record {
  sees = λ e d i number o seen asks later owner k. sees_stays c n x older h may versions e d i number o seen asks later owner k;
  alone = λ e i number d other o asks owner closes closer. alone c older e i number d other o h asks owner closes closer;
}
