-- What each record leaves of the calls.
use Rattle.std.proofs.Common.{◌≡◌, Bool, true, false, cond, List, [], ◌∷◌, ◌++◌, map, filter, Some, None, refl}
use Rattle.std.specs.Prelude.{take, ◌-◌}
use Rattle.std.specs.List.{list_any}
use Rattle.locus_ids.specs.declared.config.Config.{Config}
use Rattle.locus_ids.specs.declared.sites.Members.{Members}
use Rattle.locus_ids.specs.declared.ids.EpochId.{EpochId}
use Rattle.trace_book.specs.declared.record.Record.{Record}
use Rattle.trace_book.specs.declared.record.Record.TheVariants as says
use Rattle.call_rules.specs.Opening.{is_steady}
use Rattle.call_rules.specs.declared.answer.Answer.{Answer}
use Rattle.tree_model.specs.Calls.{version_at}
use Rattle.promises.specs.Past.{Past, CallSoFar, Instance, epoch_at, is_named}
use Rattle.promises.specs.After.{is_id, is_epoch, answered, told_by, with_epoch, is_ender, close_answer, replied_to}
use Rattle.past_laws.proofs.Changing.{map_changed}
use Rattle.past_laws.proofs.CallsAlike.{head, with_waits, with_granted, with_answers, fold_keeps}

abbrev pub IsNoAccept : Record → Type 0
IsNoAccept (says.Accept s process id words) = ⊥
IsNoAccept _ = Unit {0}

-- calls neither accepted nor answered, at sites that don't stop
abbrev pub LeavesWaiting : Record → Type 0
LeavesWaiting (says.Accept s process id words) = ⊥
LeavesWaiting (says.Answer s process id r) = ⊥
LeavesWaiting (says.Stopped s cause) = ⊥
LeavesWaiting _ = Unit {0}

-- no instance is granted, and no call accepted
abbrev pub LeavesGranted : Record → Type 0
LeavesGranted (says.Accept s process id words) = ⊥
LeavesGranted (says.Grant e id request i m f stamp ss) = ⊥
LeavesGranted _ = Unit {0}

-- no request is answered, and no call accepted
abbrev pub LeavesAnswers : Record → Type 0
LeavesAnswers (says.Accept s process id words) = ⊥
LeavesAnswers (says.Look e id request f w result) = ⊥
LeavesAnswers (says.Grant e id request i m f stamp ss) = ⊥
LeavesAnswers (says.Refuse e id request i m f why) = ⊥
LeavesAnswers (says.Act e i n o result) = ⊥
LeavesAnswers (says.Release e i f stamp) = ⊥
LeavesAnswers _ = Unit {0}

pub joined_calls : {Y : Type 0} (g : CallSoFar → Y) (e : EpochId) (members : Members) (p : Past) → map g (with_epoch e members p).calls ≡ map g p.calls
joined_calls g e members p = over (list_any (is_epoch e) p.epochs)
  where
    over : (b : Bool) → map g (cond b p (record p { epochs = (record { id = e; members = members; joined = []; left = []; known = []; started = []; granted = []; opened = []; makes = []; unmended = [] }) ∷ p.epochs })).calls ≡ map g p.calls
    over true = refl
    over false = refl

-- an answer leaves what it doesn't concern
pub answered_calls : {Y : Type 0} (g : CallSoFar → Y) → ((k : CallSoFar) (as_now : List Answer) → g (record k { answers = as_now }) ≡ g k) → (which : CallSoFar → Bool) (a : Answer) (p : Past) → map g (answered which a p).calls ≡ map g p.calls
answered_calls g same which a p = map_changed g which (λ (k : CallSoFar). record k { answers = k.answers ++ a ∷ [] }) (λ k e. same k (k.answers ++ a ∷ [])) p.calls

pub heads : (c : Config) (w : Record) (p : Past) → IsNoAccept w → map head (told_by c w p).calls ≡ map head p.calls
heads c (says.Accept s process id words) p left = absurd left
heads c (says.Stopped s cause) p left = map_changed head _ (λ (k : CallSoFar). record k { waits = false }) (λ k e. refl) p.calls
heads c (says.Join s e members) p left = joined_calls head e members p
heads c (says.Look e id request f w result) p left = map_changed head (is_id id) (λ (k : CallSoFar). record k { answers = take (request - 1) k.answers ++ _ ∷ [] }) (λ k e. refl) p.calls
heads c (says.Grant e id request i m f stamp ss) p left = map_changed head (is_id id) (λ (k : CallSoFar). record k { granted = Some (record { mode = m; epoch = e; inst = i; steady = cond (is_steady k.words) (version_at f stamp) None }); answers = k.answers ++ _ ∷ [] }) (λ k e. refl) p.calls
heads c (says.Refuse e id request i m f why) p left = answered_calls head (λ k as_now. refl) (is_id id) _ p
heads c (says.Act e i n o result) p left = answered_calls head (λ k as_now. refl) _ _ p
heads c (says.Release e i f stamp) p left = fold_keeps head (λ (old : Past) (x : Instance). answered (is_ender (epoch_at p e) i) (close_answer stamp x) old) (λ q x. answered_calls head (λ k as_now. refl) (is_ender (epoch_at p e) i) (close_answer stamp x) q) (filter (is_named i) (epoch_at p e).opened) p
heads c (says.Answer s process id r) p left = fold_keeps head (λ (old : Past) (k : CallSoFar). replied_to r k old) (λ q k. map_changed head (is_id k.id) (λ (x : CallSoFar). record x { waits = false }) (λ x e. refl) q.calls) (filter (is_id id) p.calls) p
heads c _ p left = refl

pub waits_same : (c : Config) (w : Record) (p : Past) → LeavesWaiting w → map with_waits (told_by c w p).calls ≡ map with_waits p.calls
waits_same c (says.Accept s process id words) p left = absurd left
waits_same c (says.Answer s process id r) p left = absurd left
waits_same c (says.Stopped s cause) p left = absurd left
waits_same c (says.Join s e members) p left = joined_calls with_waits e members p
waits_same c (says.Look e id request f w result) p left = map_changed with_waits (is_id id) (λ (k : CallSoFar). record k { answers = take (request - 1) k.answers ++ _ ∷ [] }) (λ k e. refl) p.calls
waits_same c (says.Grant e id request i m f stamp ss) p left = map_changed with_waits (is_id id) (λ (k : CallSoFar). record k { granted = Some (record { mode = m; epoch = e; inst = i; steady = cond (is_steady k.words) (version_at f stamp) None }); answers = k.answers ++ _ ∷ [] }) (λ k e. refl) p.calls
waits_same c (says.Refuse e id request i m f why) p left = answered_calls with_waits (λ k as_now. refl) (is_id id) _ p
waits_same c (says.Act e i n o result) p left = answered_calls with_waits (λ k as_now. refl) _ _ p
waits_same c (says.Release e i f stamp) p left = fold_keeps with_waits (λ (old : Past) (x : Instance). answered (is_ender (epoch_at p e) i) (close_answer stamp x) old) (λ q x. answered_calls with_waits (λ k as_now. refl) (is_ender (epoch_at p e) i) (close_answer stamp x) q) (filter (is_named i) (epoch_at p e).opened) p
waits_same c _ p left = refl

pub granted_same : (c : Config) (w : Record) (p : Past) → LeavesGranted w → map with_granted (told_by c w p).calls ≡ map with_granted p.calls
granted_same c (says.Accept s process id words) p left = absurd left
granted_same c (says.Grant e id request i m f stamp ss) p left = absurd left
granted_same c (says.Stopped s cause) p left = map_changed with_granted _ (λ (k : CallSoFar). record k { waits = false }) (λ k e. refl) p.calls
granted_same c (says.Join s e members) p left = joined_calls with_granted e members p
granted_same c (says.Look e id request f w result) p left = map_changed with_granted (is_id id) (λ (k : CallSoFar). record k { answers = take (request - 1) k.answers ++ _ ∷ [] }) (λ k e. refl) p.calls
granted_same c (says.Refuse e id request i m f why) p left = answered_calls with_granted (λ k as_now. refl) (is_id id) _ p
granted_same c (says.Act e i n o result) p left = answered_calls with_granted (λ k as_now. refl) _ _ p
granted_same c (says.Release e i f stamp) p left = fold_keeps with_granted (λ (old : Past) (x : Instance). answered (is_ender (epoch_at p e) i) (close_answer stamp x) old) (λ q x. answered_calls with_granted (λ k as_now. refl) (is_ender (epoch_at p e) i) (close_answer stamp x) q) (filter (is_named i) (epoch_at p e).opened) p
granted_same c (says.Answer s process id r) p left = fold_keeps with_granted (λ (old : Past) (k : CallSoFar). replied_to r k old) (λ q k. map_changed with_granted (is_id k.id) (λ (x : CallSoFar). record x { waits = false }) (λ x e. refl) q.calls) (filter (is_id id) p.calls) p
granted_same c _ p left = refl

pub answers_same : (c : Config) (w : Record) (p : Past) → LeavesAnswers w → map with_answers (told_by c w p).calls ≡ map with_answers p.calls
answers_same c (says.Accept s process id words) p left = absurd left
answers_same c (says.Look e id request f w result) p left = absurd left
answers_same c (says.Grant e id request i m f stamp ss) p left = absurd left
answers_same c (says.Refuse e id request i m f why) p left = absurd left
answers_same c (says.Act e i n o result) p left = absurd left
answers_same c (says.Release e i f stamp) p left = absurd left
answers_same c (says.Stopped s cause) p left = map_changed with_answers _ (λ (k : CallSoFar). record k { waits = false }) (λ k e. refl) p.calls
answers_same c (says.Join s e members) p left = joined_calls with_answers e members p
answers_same c (says.Answer s process id r) p left = fold_keeps with_answers (λ (old : Past) (k : CallSoFar). replied_to r k old) (λ q k. map_changed with_answers (is_id k.id) (λ (x : CallSoFar). record x { waits = false }) (λ x e. refl) q.calls) (filter (is_id id) p.calls) p
answers_same c _ p left = refl
