-- The calls and grants that a tree has are those of the trace.
use Rattle.std.proofs.Common.{◌≡◌, ℕ, ◌==◌, Bool, true, false, ◌&&◌, ◌||◌, cond, List, [], ◌∷◌, ◌++◌, Option, Some, None, refl, sym, ap, ◌∙◌, subst, ◌⊎◌, inl, inr}
use Rattle.std.specs.List.{list_any}
use Rattle.std.specs.Option.{option_map, option_or}
use Rattle.role_steps.proofs.of_plain_facts.Tests.{true_false}
use Rattle.locus_ids.specs.declared.config.Config.{Config}
use Rattle.locus_ids.specs.declared.ids.CallId.{CallId}
use Rattle.locus_ids.specs.declared.ids.EpochId.{EpochId}
use Rattle.locus_ids.specs.declared.ids.Serial.{Serial}
use Rattle.commit_graph.specs.declared.history.Version.{Version}
use Rattle.trace_book.specs.Same.{same_call, same_epoch}
use Rattle.trace_book.specs.declared.record.Record.{Record}
use Rattle.trace_book.specs.declared.record.Record.TheVariants as says
use Rattle.role_steps.specs.Views.{Told, Shown}
use Rattle.the_run.specs.Worlds.{Line}
use Rattle.tree_model.specs.declared.accepted.AcceptedCall.{AcceptedCall}
use Rattle.tree_model.specs.declared.accepted.Waiting.{Waiting}
use Rattle.tree_model.specs.Calls.{call_named}
use Rattle.tree_model.specs.Epochs.{epoch_of}
use Rattle.tree_model.specs.Folds.{Trace}
use Rattle.tree_model.specs.Histories.{history}
use Rattle.tree_model.specs.Lists.{latest}
use Rattle.tree_model.specs.State.{TreeState, call_in, is_call_of, is_grant_of, is_granted, is_granted_here, is_make}
use Rattle.tree_model.specs.Tree.{acted, grant_of, granted, joined, left, next, released, tree_of, without_make}
use Rattle.tree_laws.specs.Following.{MayTell, IsFollowed}
use Rattle.tree_laws.specs.Past.{Printed, WasNamed, WasReleased, NamingRecord, EndRecord}
use Rattle.tree_laws.specs.Printed.{entries, onto_entries}
use Rattle.tree_laws.proofs.Grants.{open_named}
use Rattle.tree_laws.proofs.Kinship.{tree_epoch_is}
use Rattle.tree_laws.proofs.Names.{same_epoch_eq, same_serial_eq}
use Rattle.tree_laws.proofs.Syncs.Trees.{same_if}

-- ---- calls ----

latest_added : {X : Type 0} (p : X → Bool) (xs : List X) (y : X) → latest p (xs ++ y ∷ []) ≡ cond (p y) (Some y) (latest p xs)
latest_added p [] y = refl
latest_added p (x ∷ xs) y = ap (λ (o : Option _). option_or o (cond (p x) (Some x) None)) (latest_added p xs y) ∙ over (p y)
  where
    over : (b : Bool) → option_or (cond b (Some y) (latest p xs)) (cond (p x) (Some x) None) ≡ cond b (Some y) (option_or (latest p xs) (cond (p x) (Some x) None))
    over true = refl
    over false = refl

abbrev accepted_of : Waiting → AcceptedCall
accepted_of w = record { call = w.call; process = w.process; words = w.words }

calls_same : (h : List Version) (r : Record) (t : TreeState) (before : Trace) (line : ℕ) (d : CallId) → call_in t.calls d ≡ option_map accepted_of (call_named before d) → call_in (next h r t).calls d ≡ option_map accepted_of (call_named (record { line = line; what = r } ∷ before) d)
calls_same h (says.Accept s process call words) t before line d e = latest_added (is_call_of d) t.calls (record { call = call; process = process; words = words }) ∙ over (same_call call d)
  where
    over : (b : Bool) → cond b (Some (record { call = call; process = process; words = words })) (call_in t.calls d) ≡ option_map accepted_of (cond b (Some (record { site = s; process = process; call = call; words = words; epoch = epoch_of before s })) (call_named before d))
    over true = refl
    over false = e
calls_same h (says.Join s at m) t before line d e = over (same_epoch at t.epoch) ∙ e
  where
    over : (b : Bool) → call_in (cond b (joined s m t) (left s t)).calls d ≡ call_in t.calls d
    over true = refl
    over false = refl
calls_same h (says.Start at g copies) t before line d e = same_if (λ (u : TreeState). call_in u.calls d) (same_epoch at t.epoch && (g == t.group)) (record t { started = true }) t (λ b. refl) ∙ e
calls_same h (says.Grant at call request i m file stamp ss) t before line d e = same_if (λ (u : TreeState). call_in u.calls d) (same_epoch at t.epoch) (granted h (grant_of t call i m file ss) stamp t) t (λ b. refl) ∙ e
calls_same h (says.Refuse at call request i m file why) t before line d e = same_if (λ (u : TreeState). call_in u.calls d) (same_epoch at t.epoch && ((file.group == t.group) && is_make m)) (record t { makes = without_make call t.makes }) t (λ b. refl) ∙ e
calls_same h (says.Act at i n o result) t before line d e = same_if (λ (u : TreeState). call_in u.calls d) (same_epoch at t.epoch && is_granted_here t i) (acted h i o result t) t (λ b. refl) ∙ e
calls_same h (says.Release at i file stamp) t before line d e = same_if (λ (u : TreeState). call_in u.calls d) (same_epoch at t.epoch && (file.group == t.group)) (released i file stamp t) t (λ b. refl) ∙ e
calls_same h r t before line d e = e

-- the call that a tree has under a name is the accepted one
pub call_in_is : (c : Config) (e : EpochId) (g : ℕ) (before : Trace) (d : CallId) → call_in (tree_of c e g before).calls d ≡ option_map accepted_of (call_named before d)
call_in_is c e g [] d = refl
call_in_is c e g (r ∷ before) d = calls_same (history c before) r.what (tree_of c e g before) before r.line d (call_in_is c e g before d)

-- ---- grants ----

any_added : {X : Type 0} (p : X → Bool) (xs : List X) (y : X) → list_any p (xs ++ y ∷ []) ≡ true → (list_any p xs ≡ true) ⊎ (p y ≡ true)
any_added p [] y e = over (p y) e
  where
    over : (b : Bool) → b || false ≡ true → (false ≡ true) ⊎ (b ≡ true)
    over true e = inr refl
    over false e = inl e
any_added p (x ∷ xs) y e = over (p x) e (any_added p xs y)
  where
    over : (b : Bool) → b || list_any p (xs ++ y ∷ []) ≡ true → (list_any p (xs ++ y ∷ []) ≡ true → (list_any p xs ≡ true) ⊎ (p y ≡ true)) → (b || list_any p xs ≡ true) ⊎ (p y ≡ true)
    over true e later = inl refl
    over false e later = later e

grant_record : (h : List Version) (r : Record) (t : TreeState) (e : EpochId) (i : Serial) (older : List Line) → t.epoch ≡ e → is_granted (next h r t) i ≡ true → (is_granted t i ≡ true) ⊎ Printed (NamingRecord e i) older (Shown r)
grant_record h (says.Grant at call request inst m file stamp ss) t e i older is k = over (same_epoch at t.epoch) refl k
  where
    new : (is_granted t i ≡ true) ⊎ (is_grant_of i (grant_of t call inst m file ss) ≡ true) → same_epoch at t.epoch ≡ true → (is_granted t i ≡ true) ⊎ Printed (NamingRecord e i) older (Shown (says.Grant at call request inst m file stamp ss))
    new (inl old) same = inl old
    new (inr its) same = inr (record { epoch_is = same_epoch_eq at t.epoch same ∙ is; serial_is = same_serial_eq inst i its })

    over : (b : Bool) → same_epoch at t.epoch ≡ b → is_granted (cond b (granted h (grant_of t call inst m file ss) stamp t) t) i ≡ true → (is_granted t i ≡ true) ⊎ Printed (NamingRecord e i) older (Shown (says.Grant at call request inst m file stamp ss))
    over true same k = new (any_added (is_grant_of i) t.grants (grant_of t call inst m file ss) k) same
    over false same k = inl k
grant_record h (says.Join s at m) t e i older is k = inl (over (same_epoch at t.epoch) k)
  where
    over : (b : Bool) → is_granted (cond b (joined s m t) (left s t)) i ≡ true → is_granted t i ≡ true
    over true k = k
    over false k = k
grant_record h (says.Start at g copies) t e i older is k = inl (sym (same_if (λ (u : TreeState). is_granted u i) (same_epoch at t.epoch && (g == t.group)) (record t { started = true }) t (λ b. refl)) ∙ k)
grant_record h (says.Refuse at call request inst m file why) t e i older is k = inl (sym (same_if (λ (u : TreeState). is_granted u i) (same_epoch at t.epoch && ((file.group == t.group) && is_make m)) (record t { makes = without_make call t.makes }) t (λ b. refl)) ∙ k)
grant_record h (says.Act at inst n o result) t e i older is k = inl (sym (same_if (λ (u : TreeState). is_granted u i) (same_epoch at t.epoch && is_granted_here t inst) (acted h inst o result t) t (λ b. refl)) ∙ k)
grant_record h (says.Release at inst file stamp) t e i older is k = inl (sym (same_if (λ (u : TreeState). is_granted u i) (same_epoch at t.epoch && (file.group == t.group)) (released inst file stamp t) t (λ b. refl)) ∙ k)
grant_record h r t e i older is k = inl k

grant_told : (c : Config) (n : ℕ) (x : Told) (older : List Line) (e : EpochId) (g : ℕ) (i : Serial) → is_granted (tree_of c e g (onto_entries n x (entries older))) i ≡ true → (is_granted (tree_of c e g (entries older)) i ≡ true) ⊎ Printed (NamingRecord e i) older x
grant_told c n (Shown r) older e g i k = grant_record (history c (entries older)) r (tree_of c e g (entries older)) e i older (tree_epoch_is c e g (entries older)) k
grant_told c n _ older e g i k = inl k

-- what a tree has granted was named
pub granted_was_named : (c : Config) (trace : List Line) (e : EpochId) (g : ℕ) (i : Serial) → is_granted (tree_of c e g (entries trace)) i ≡ true → WasNamed trace e i
granted_was_named c [] e g i k = absurd (true_false (sym k))
granted_was_named c (x ∷ older) e g i k = over (granted_was_named c older e g i) (grant_told c x.number x.told older e g i k)
  where
    over : (is_granted (tree_of c e g (entries older)) i ≡ true → WasNamed older e i) → (is_granted (tree_of c e g (entries older)) i ≡ true) ⊎ Printed (NamingRecord e i) older x.told → WasNamed (x ∷ older) e i
    over later (inl old) = inr (later old)
    over later (inr new) = inl new

-- and so was what was released
released_now : (c : Config) (older : List Line) (x : Told) (e : EpochId) (i : Serial) → MayTell c older x → Printed (EndRecord e i) older x → WasNamed older e i
released_now c older (Shown (says.Release at inst file last)) e i may p = subst (λ (j : Serial). WasNamed older e j) p.serial_is (subst (λ (y : EpochId). WasNamed older y inst) p.epoch_is (open_named c older at inst may.in_time.at may.in_time.open_at.found))
released_now c older (Shown r) e i may p = absurd p
released_now c older x e i may p = absurd p

pub released_was_named : (c : Config) (trace : List Line) (e : EpochId) (i : Serial) → IsFollowed c trace → WasReleased trace e i → WasNamed trace e i
released_was_named c [] e i h w = absurd w
released_was_named c (x ∷ older) e i h (inl p) = inr (released_now c older x.told e i h.0 p)
released_was_named c (x ∷ older) e i h (inr w) = inr (released_was_named c older e i h.1 w)
