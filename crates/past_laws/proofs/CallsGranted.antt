-- What was granted stays granted: an instance is granted to one call.
use Rattle.std.proofs.Common.{◌≡◌, ℕ, ◌==◌, Bool, true, false, not, cond, ◌&&◌, ◌||◌, List, [], ◌∷◌, ◌++◌, Option, Some, refl, sym, ◌∙◌, ap, subst}
use Rattle.std.specs.List.{list_any}
use Rattle.std.specs.Option.{is_none}
use Rattle.locus_ids.specs.declared.config.Config.{Config}
use Rattle.locus_ids.specs.declared.ids.CallId.{CallId}
use Rattle.locus_ids.specs.declared.ids.EpochId.{EpochId}
use Rattle.locus_ids.specs.declared.ids.Serial.{Serial}
use Rattle.locus_ids.specs.declared.ids.FileId.{FileId}
use Rattle.locus_ids.specs.declared.ids.Mode.{Mode}
use Rattle.locus_ids.specs.declared.ids.Stamp.{Stamp}
use Rattle.commit_graph.specs.declared.history.Version.{Version}
use Rattle.trace_book.specs.Same.{same_epoch, same_serial}
use Rattle.trace_book.specs.declared.record.Record.{Record}
use Rattle.trace_book.specs.declared.record.Record.TheVariants as says
use Rattle.tree_model.specs.Calls.{granted_to}
use Rattle.tree_model.specs.Folds.{Trace}
use Rattle.tree_model.specs.Histories.{history}
use Rattle.tree_model.specs.Opening.{open_refusal, is_placed}
use Rattle.tree_model.specs.State.{TreeState, is_granted, is_grant_of, is_granted_here, is_make}
use Rattle.tree_model.specs.Tree.{next, tree_of, joined, left, grant_of, granted}
use Rattle.promises.specs.of_lawful_trace.Lawful.{MayCome}
use Rattle.past_laws.proofs.Names.{false_true, none_some, both_parts, epoch_eq, serial_eq}

abbrev pub With : ℕ → Record → Trace → Trace
With n r before = record { line = n; what = r } ∷ before

-- a part that both of two trees have
pub either : {A : Type 0} (g : TreeState → A) (b : Bool) (u v t : TreeState) → g u ≡ g t → g v ≡ g t → g (cond b u v) ≡ g t
either g true u v t e f = e
either g false u v t e f = f

epoch_kept : (h : List Version) (r : Record) (t : TreeState) → (next h r t).epoch ≡ t.epoch
epoch_kept h (says.Join s e m) t = either (λ (x : TreeState). x.epoch) (same_epoch e t.epoch) _ _ t refl refl
epoch_kept h (says.Start e group copies) t = either (λ (x : TreeState). x.epoch) (same_epoch e t.epoch && (group == t.group)) _ _ t refl refl
epoch_kept h (says.Grant e call request i m f stamp ss) t = either (λ (x : TreeState). x.epoch) (same_epoch e t.epoch) _ _ t refl refl
epoch_kept h (says.Refuse e call request i m f why) t = either (λ (x : TreeState). x.epoch) (same_epoch e t.epoch && ((f.group == t.group) && is_make m)) _ _ t refl refl
epoch_kept h (says.Act e i n o result) t = either (λ (x : TreeState). x.epoch) (same_epoch e t.epoch && is_granted_here t i) _ _ t refl refl
epoch_kept h (says.Release e i f stamp) t = either (λ (x : TreeState). x.epoch) (same_epoch e t.epoch && (f.group == t.group)) _ _ t refl refl
epoch_kept h _ t = refl

pub tree_epoch : (c : Config) (e : EpochId) (g : ℕ) (trace : Trace) → (tree_of c e g trace).epoch ≡ e
tree_epoch c e g [] = refl
tree_epoch c e g (r ∷ before) = epoch_kept (history c before) r.what (tree_of c e g before) ∙ tree_epoch c e g before

-- a grant that the tree has stays
any_more : {X : Type 0} (p : X → Bool) (xs ys : List X) → list_any p xs ≡ true → list_any p (xs ++ ys) ≡ true
any_more p [] ys h = false_true h
any_more {X} p (x ∷ xs) ys h = over (any_more p xs ys) (p x) h
  where
    over : (list_any p xs ≡ true → list_any p (xs ++ ys) ≡ true) → (b : Bool) → b || list_any p xs ≡ true → b || list_any p (xs ++ ys) ≡ true
    over later true k = refl
    over later false k = later k

any_last : {X : Type 0} (p : X → Bool) (xs : List X) (y : X) → p y ≡ true → list_any p (xs ++ y ∷ []) ≡ true
any_last p [] y h = ap (λ (b : Bool). b || false) h
any_last {X} p (x ∷ xs) y h = over (p x) (any_last p xs y h)
  where
    over : (b : Bool) → list_any p (xs ++ y ∷ []) ≡ true → b || list_any p (xs ++ y ∷ []) ≡ true
    over true k = refl
    over false k = k

stays_granted : (h : List Version) (r : Record) (t : TreeState) (i : Serial) → is_granted t i ≡ true → is_granted (next h r t) i ≡ true
stays_granted h (says.Join s e m) t i k = either (λ (x : TreeState). is_granted x i) (same_epoch e t.epoch) (joined s m t) (left s t) t refl refl ∙ k
stays_granted h (says.Start e group copies) t i k = either (λ (x : TreeState). is_granted x i) (same_epoch e t.epoch && (group == t.group)) _ _ t refl refl ∙ k
stays_granted h (says.Grant e call request inst m f stamp ss) t i k = over (same_epoch e t.epoch)
  where
    over : (b : Bool) → is_granted (cond b (granted h (grant_of t call inst m f ss) stamp t) t) i ≡ true
    over true = any_more (is_grant_of i) t.grants (grant_of t call inst m f ss ∷ []) k
    over false = k
stays_granted h (says.Refuse e call request inst m f why) t i k = either (λ (x : TreeState). is_granted x i) (same_epoch e t.epoch && ((f.group == t.group) && is_make m)) _ _ t refl refl ∙ k
stays_granted h (says.Act e inst n o result) t i k = either (λ (x : TreeState). is_granted x i) (same_epoch e t.epoch && is_granted_here t inst) _ _ t refl refl ∙ k
stays_granted h (says.Release e inst f stamp) t i k = either (λ (x : TreeState). is_granted x i) (same_epoch e t.epoch && (f.group == t.group)) _ _ t refl refl ∙ k
stays_granted h _ t i k = k

granted_more : (c : Config) (e : EpochId) (g n : ℕ) (r : Record) (before : Trace) (i : Serial) (d : CallId) → (granted_to before e i ≡ Some d → is_granted (tree_of c e g before) i ≡ true)
    → granted_to (With n r before) e i ≡ Some d → is_granted (tree_of c e g (With n r before)) i ≡ true
granted_more c e g n (says.Grant at call request inst m f stamp ss) before i d later k = over (same_epoch at e && same_serial inst i) refl k
  where
    t : TreeState
    t = tree_of c e g before

    own : (b : Bool) → b ≡ true → same_serial inst i ≡ true → is_granted (cond b (granted (history c before) (grant_of t call inst m f ss) stamp t) t) i ≡ true
    own true h q = any_last (is_grant_of i) t.grants (grant_of t call inst m f ss) q
    own false h q = false_true h

    at_it : same_epoch at e ≡ true → same_epoch at t.epoch ≡ true
    at_it h = subst (λ (x : EpochId). same_epoch at x ≡ true) (sym (tree_epoch c e g before)) h

    new : same_epoch at e ≡ true → same_serial inst i ≡ true → is_granted (next (history c before) (says.Grant at call request inst m f stamp ss) t) i ≡ true
    new p q = own (same_epoch at t.epoch) (at_it p) q

    over : (b : Bool) → same_epoch at e && same_serial inst i ≡ b → cond b (Some call) (granted_to before e i) ≡ Some d → is_granted (tree_of c e g (With n (says.Grant at call request inst m f stamp ss) before)) i ≡ true
    over true h q = let parts = both_parts (same_epoch at e) (same_serial inst i) h in new parts.0 parts.1
    over false h q = stays_granted (history c before) (says.Grant at call request inst m f stamp ss) t i (later q)
granted_more c e g n r before i d later k = stays_granted (history c before) r (tree_of c e g before) i (later k)

-- what was granted to a call the tree of its epoch has, whatever its group
pub is_granted_to : (c : Config) (e : EpochId) (g : ℕ) (trace : Trace) (i : Serial) (d : CallId) → granted_to trace e i ≡ Some d → is_granted (tree_of c e g trace) i ≡ true
is_granted_to c e g [] i d k = none_some d k
is_granted_to c e g (r ∷ before) i d k = granted_more c e g r.line r.what before i d (is_granted_to c e g before i d) k

-- a grant that may come is of an instance that none has
pub grant_is_new : (c : Config) (before : Trace) (e : EpochId) (call : CallId) (request : ℕ) (i : Serial) (m : Mode) (f : FileId) (stamp : Option Stamp) (ss : ℕ) (d : CallId) → MayCome c before (says.Grant e call request i m f stamp ss) → granted_to before e i ≡ Some d → ⊥
grant_is_new c before e call request i m f stamp ss d may k = parts (tree_of c e f.group before).started (is_none (open_refusal (history c before) (tree_of c e f.group before) m call f)) (i.us == call.site) (is_granted (tree_of c e f.group before) i) (is_placed (history c before) (tree_of c e f.group before) call m f stamp ss) may.gives (is_granted_to c e f.group before i d k)
  where
    parts : (a b d x y : Bool) → a && (b && (d && (not x && y))) ≡ true → x ≡ true → ⊥
    parts true true true true y h k = false_true h
    parts true true true false y h k = false_true k
    parts true true false x y h k = false_true h
    parts true false d x y h k = false_true h
    parts false b d x y h k = false_true h

-- so what was granted stays granted
pub granted_stays : (c : Config) (n : ℕ) (r : Record) (before : Trace) (e : EpochId) (i : Serial) (d : CallId) → MayCome c before r → granted_to before e i ≡ Some d → granted_to (With n r before) e i ≡ Some d
granted_stays c n (says.Grant at call request inst m f stamp ss) before e i d may k = over (same_epoch at e) (same_serial inst i) refl refl
  where
    over : (a b : Bool) → same_epoch at e ≡ a → same_serial inst i ≡ b → cond (a && b) (Some call) (granted_to before e i) ≡ Some d
    over true true p q = absurd (grant_is_new c before at call request inst m f stamp ss d may (ap (λ (x : EpochId). granted_to before x inst) (epoch_eq at e p) ∙ (ap (granted_to before e) (serial_eq inst i q) ∙ k)))
    over true false p q = k
    over false b p q = k
granted_stays c n _ before e i d may k = k
