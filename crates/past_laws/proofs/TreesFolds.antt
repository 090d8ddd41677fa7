-- The tree of an epoch and a group, by the folds of the trace: which tree it is, who its members are, who is in it, and which
-- calls it knows.
use Rattle.std.proofs.Common.{◌≡◌, ℕ, ◌==◌, Bool, true, false, cond, ◌&&◌, ◌||◌, List, [], ◌∷◌, ◌++◌, Option, Some, None, refl, sym, ◌∙◌, ap, subst}
use Rattle.std.specs.Option.{option_map, option_or}
use Rattle.locus_ids.specs.declared.config.Config.{Config}
use Rattle.locus_ids.specs.declared.sites.Members.{Members}
use Rattle.locus_ids.specs.declared.ids.EpochId.{EpochId}
use Rattle.locus_ids.specs.declared.ids.CallId.{CallId}
use Rattle.commit_graph.specs.declared.history.Version.{Version}
use Rattle.trace_book.specs.Same.{same_epoch, same_call}
use Rattle.trace_book.specs.declared.record.Record.{Record}
use Rattle.trace_book.specs.declared.record.Record.TheVariants as says
use Rattle.tree_model.specs.declared.accepted.AcceptedCall.{AcceptedCall}
use Rattle.tree_model.specs.declared.accepted.Waiting.{Waiting}
use Rattle.tree_model.specs.Calls.{call_named, call_after}
use Rattle.tree_model.specs.Epochs.{epoch_of, is_in, has_joined, members_of, members_after}
use Rattle.tree_model.specs.Folds.{Trace}
use Rattle.tree_model.specs.Histories.{history}
use Rattle.tree_model.specs.Lists.{latest}
use Rattle.tree_model.specs.State.{TreeState, is_inside, is_granted_here, is_make, is_call_of, call_in, has_number}
use Rattle.tree_model.specs.Tree.{next, tree_of, joined, left, without_number}
use Rattle.past_laws.proofs.Names.{number_eq, false_true}

-- A part that a record leaves alone.

pub either : {A : Type 0} (g : TreeState → A) (b : Bool) (u t : TreeState) → g u ≡ g t → g (cond b u t) ≡ g t
either g true u t e = e
either g false u t e = refl

both_ways : {A : Type 0} (g : TreeState → A) (b : Bool) (u v t : TreeState) → g u ≡ g t → g v ≡ g t → g (cond b u v) ≡ g t
both_ways g true u v t e f = e
both_ways g false u v t e f = f

-- a part that only joins may change
pub but_join : {A : Type 0} (g : TreeState → A) → ((t u : TreeState) → u.config ≡ t.config → u.epoch ≡ t.epoch → u.group ≡ t.group → u.members ≡ t.members → g u ≡ g t) → (h : List Version) (r : Record) (t : TreeState) → ((s : ℕ) (e : EpochId) (m : Members) → r ≡ says.Join s e m → g (next h r t) ≡ g t) → g (next h r t) ≡ g t
but_join g of h (says.Join s e m) t j = j s e m refl
but_join g of h (says.Start e group copies) t j = either g (same_epoch e t.epoch && (group == t.group)) _ t (of t _ refl refl refl refl)
but_join g of h (says.Grant e call request i m f stamp ss) t j = either g (same_epoch e t.epoch) _ t (of t _ refl refl refl refl)
but_join g of h (says.Refuse e call request i m f why) t j = either g (same_epoch e t.epoch && ((f.group == t.group) && is_make m)) _ t (of t _ refl refl refl refl)
but_join g of h (says.Act e i n o result) t j = either g (same_epoch e t.epoch && is_granted_here t i) _ t (of t _ refl refl refl refl)
but_join g of h (says.Release e i f stamp) t j = either g (same_epoch e t.epoch && (f.group == t.group)) _ t (of t _ refl refl refl refl)
but_join g of h (says.Up s boot) t j = of t _ refl refl refl refl
but_join g of h (says.Stopped s cause) t j = of t _ refl refl refl refl
but_join g of h (says.Leave s e) t j = of t _ refl refl refl refl
but_join g of h (says.Accept s process call words) t j = of t _ refl refl refl refl
but_join g of h (says.Commit f s stamp parents content) t j = of t _ refl refl refl refl
but_join g of h (says.Adopt f s stamp) t j = of t _ refl refl refl refl
but_join g of h _ t j = refl

pub config_is : (c : Config) (e : EpochId) (g : ℕ) (before : Trace) → (tree_of c e g before).config ≡ c
config_is c e g [] = refl
config_is c e g (r ∷ before) = but_join (λ t. t.config) (λ t u a b d m. a) (history c before) r.what t (λ s a m k. ap (λ x. (next (history c before) x t).config) k ∙ both_ways (λ t. t.config) (same_epoch a t.epoch) (joined s m t) (left s t) t refl refl) ∙ config_is c e g before
  where
    t : TreeState
    t = tree_of c e g before

pub epoch_is : (c : Config) (e : EpochId) (g : ℕ) (before : Trace) → (tree_of c e g before).epoch ≡ e
epoch_is c e g [] = refl
epoch_is c e g (r ∷ before) = but_join (λ t. t.epoch) (λ t u a b d m. b) (history c before) r.what t (λ s a m k. ap (λ x. (next (history c before) x t).epoch) k ∙ both_ways (λ t. t.epoch) (same_epoch a t.epoch) (joined s m t) (left s t) t refl refl) ∙ epoch_is c e g before
  where
    t : TreeState
    t = tree_of c e g before

pub group_is : (c : Config) (e : EpochId) (g : ℕ) (before : Trace) → (tree_of c e g before).group ≡ g
group_is c e g [] = refl
group_is c e g (r ∷ before) = but_join (λ t. t.group) (λ t u a b d m. d) (history c before) r.what t (λ s a m k. ap (λ x. (next (history c before) x t).group) k ∙ both_ways (λ t. t.group) (same_epoch a t.epoch) (joined s m t) (left s t) t refl refl) ∙ group_is c e g before
  where
    t : TreeState
    t = tree_of c e g before

-- the members are those that the records of the epoch list
pub members_are : (c : Config) (e : EpochId) (g : ℕ) (before : Trace) → (tree_of c e g before).members ≡ members_of before e
members_are c e g [] = refl
members_are c e g (r ∷ before) = over r.what (members_are c e g before)
  where
    t : TreeState
    t = tree_of c e g before

    join : (s : ℕ) (a : EpochId) (m : Members) (b : Bool) → t.members ≡ members_of before e → (cond b (joined s m t) (left s t)).members ≡ cond b (Some m) (members_of before e)
    join s a m true k = refl
    join s a m false k = k

    over : (x : Record) → t.members ≡ members_of before e → (next (history c before) x t).members ≡ members_after x e (members_of before e)
    over (says.Join s a m) k = ap (λ y. (cond (same_epoch a y) (joined s m t) (left s t)).members) (epoch_is c e g before) ∙ join s a m (same_epoch a e) k
    over (says.Start a group copies) k = either (λ (u : TreeState). u.members) (same_epoch a t.epoch && (group == t.group)) _ t refl ∙ k
    over (says.Grant a call request i m f stamp ss) k = either (λ (u : TreeState). u.members) (same_epoch a t.epoch) _ t refl ∙ k
    over (says.Refuse a call request i m f why) k = either (λ (u : TreeState). u.members) (same_epoch a t.epoch && ((f.group == t.group) && is_make m)) _ t refl ∙ k
    over (says.Act a i n o result) k = either (λ (u : TreeState). u.members) (same_epoch a t.epoch && is_granted_here t i) _ t refl ∙ k
    over (says.Release a i f stamp) k = either (λ (u : TreeState). u.members) (same_epoch a t.epoch && (f.group == t.group)) _ t refl ∙ k
    over _ k = k

-- Which calls it knows.

abbrev pub accepted_from : Waiting → AcceptedCall
accepted_from w = record { call = w.call; process = w.process; words = w.words }

pub latest_added : {X : Type 0} (p : X → Bool) (xs : List X) (y : X) → latest p (xs ++ y ∷ []) ≡ cond (p y) (Some y) (latest p xs)
latest_added {X} p [] y = at (p y)
  where
    at : (b : Bool) → option_or None (cond b (Some y) None) ≡ cond b (Some y) None
    at true = refl
    at false = refl
latest_added {X} p (x ∷ xs) y = ap (λ o. option_or o (cond (p x) (Some x) None)) (latest_added p xs y) ∙ at (p y)
  where
    at : (b : Bool) → option_or (cond b (Some y) (latest p xs)) (cond (p x) (Some x) None) ≡ cond b (Some y) (option_or (latest p xs) (cond (p x) (Some x) None))
    at true = refl
    at false = refl

pub calls_are : (c : Config) (e : EpochId) (g : ℕ) (before : Trace) (d : CallId) → call_in (tree_of c e g before).calls d ≡ option_map accepted_from (call_named before d)
calls_are c e g [] d = refl
calls_are c e g (r ∷ before) d = over r.what (calls_are c e g before d)
  where
    t : TreeState
    t = tree_of c e g before

    accept : (b : Bool) (new : Waiting) → call_in t.calls d ≡ option_map accepted_from (call_named before d) → cond b (Some (accepted_from new)) (call_in t.calls d) ≡ option_map accepted_from (cond b (Some new) (call_named before d))
    accept true new k = refl
    accept false new k = k

    over : (x : Record) → call_in t.calls d ≡ option_map accepted_from (call_named before d) → call_in (next (history c before) x t).calls d ≡ option_map accepted_from (call_after x before d (call_named before d))
    over (says.Accept s process call words) k = latest_added (is_call_of d) t.calls _ ∙ accept (same_call call d) (record { site = s; process = process; call = call; words = words; epoch = epoch_of before s }) k
    over (says.Join s a m) k = ap (λ cs. call_in cs d) (both_ways (λ (u : TreeState). u.calls) (same_epoch a t.epoch) (joined s m t) (left s t) t refl refl) ∙ k
    over (says.Start a group copies) k = ap (λ cs. call_in cs d) (either (λ (u : TreeState). u.calls) (same_epoch a t.epoch && (group == t.group)) _ t refl) ∙ k
    over (says.Grant a call request i m f stamp ss) k = ap (λ cs. call_in cs d) (either (λ (u : TreeState). u.calls) (same_epoch a t.epoch) _ t refl) ∙ k
    over (says.Refuse a call request i m f why) k = ap (λ cs. call_in cs d) (either (λ (u : TreeState). u.calls) (same_epoch a t.epoch && ((f.group == t.group) && is_make m)) _ t refl) ∙ k
    over (says.Act a i n o result) k = ap (λ cs. call_in cs d) (either (λ (u : TreeState). u.calls) (same_epoch a t.epoch && is_granted_here t i) _ t refl) ∙ k
    over (says.Release a i f stamp) k = ap (λ cs. call_in cs d) (either (λ (u : TreeState). u.calls) (same_epoch a t.epoch && (f.group == t.group)) _ t refl) ∙ k
    over _ k = k

-- Who is in it.

without_own : (a : ℕ) (ns : List ℕ) → has_number (without_number a ns) a ≡ false
without_own a [] = refl
without_own a (n ∷ ns) = at (without_own a ns) (n == a) refl
  where
    at : has_number (without_number a ns) a ≡ false → (b : Bool) → (n == a) ≡ b → has_number (without_number a (n ∷ ns)) a ≡ false
    at later true e = rw e later
    at later false e = rw e (rw e later)

without_other : (a b : ℕ) (ns : List ℕ) → (a == b) ≡ false → has_number (without_number a ns) b ≡ has_number ns b
without_other a b [] ne = refl
without_other a b (n ∷ ns) ne = at (without_other a b ns ne) (n == a) refl
  where
    other : (n == a) ≡ true → (n == b) ≡ false
    other e = subst (λ (m : ℕ). (m == b) ≡ false) (sym (number_eq n a e)) ne

    at : has_number (without_number a ns) b ≡ has_number ns b → (c : Bool) → (n == a) ≡ c → has_number (without_number a (n ∷ ns)) b ≡ has_number (n ∷ ns) b
    at later true e = rw e (rw (other e) later)
    at later false e = rw e (ap (λ (x : Bool). (n == b) || x) later)

left_in : (a s : ℕ) (ns : List ℕ) (o : Option EpochId) (e : EpochId) → has_number ns s ≡ is_in o e → has_number (without_number a ns) s ≡ is_in (cond (a == s) None o) e
left_in a s ns o e h = at (a == s) refl
  where
    at : (b : Bool) → (a == s) ≡ b → has_number (without_number a ns) s ≡ is_in (cond b None o) e
    at true k = subst (λ (m : ℕ). has_number (without_number a ns) m ≡ false) (number_eq a s k) (without_own a ns)
    at false k = without_other a s ns k ∙ h

entered_in : (a s : ℕ) (ns : List ℕ) (o : Option EpochId) (at_epoch e : EpochId) → same_epoch at_epoch e ≡ true → has_number ns s ≡ is_in o e → has_number (a ∷ without_number a ns) s ≡ is_in (cond (a == s) (Some at_epoch) o) e
entered_in a s ns o at_epoch e same h = at (a == s) refl
  where
    at : (b : Bool) → (a == s) ≡ b → (b || has_number (without_number a ns) s) ≡ is_in (cond b (Some at_epoch) o) e
    at true k = sym same
    at false k = without_other a s ns k ∙ h

passed_in : (a s : ℕ) (ns : List ℕ) (o : Option EpochId) (at_epoch e : EpochId) → same_epoch at_epoch e ≡ false → has_number ns s ≡ is_in o e → has_number (without_number a ns) s ≡ is_in (cond (a == s) (Some at_epoch) o) e
passed_in a s ns o at_epoch e other h = at (a == s) refl
  where
    at : (b : Bool) → (a == s) ≡ b → has_number (without_number a ns) s ≡ is_in (cond b (Some at_epoch) o) e
    at true k = subst (λ (m : ℕ). has_number (without_number a ns) m ≡ false) (number_eq a s k) (without_own a ns) ∙ sym other
    at false k = without_other a s ns k ∙ h

pub inside_is : (c : Config) (e : EpochId) (g : ℕ) (before : Trace) (s : ℕ) → is_inside (tree_of c e g before) s ≡ is_in (epoch_of before s) e
inside_is c e g [] s = refl
inside_is c e g (r ∷ before) s = over r.what (inside_is c e g before s)
  where
    t : TreeState
    t = tree_of c e g before

    join : (a : ℕ) (at_epoch : EpochId) (m : Members) (b : Bool) → same_epoch at_epoch t.epoch ≡ b → is_inside t s ≡ is_in (epoch_of before s) e → is_inside (cond b (joined a m t) (left a t)) s ≡ is_in (cond (a == s) (Some at_epoch) (epoch_of before s)) e
    join a at_epoch m true k h = entered_in a s t.inside (epoch_of before s) at_epoch e (ap (λ y. same_epoch at_epoch y) (sym (epoch_is c e g before)) ∙ k) h
    join a at_epoch m false k h = passed_in a s t.inside (epoch_of before s) at_epoch e (ap (λ y. same_epoch at_epoch y) (sym (epoch_is c e g before)) ∙ k) h

    over : (x : Record) → is_inside t s ≡ is_in (epoch_of before s) e → is_inside (next (history c before) x t) s ≡ is_in (epoch_of (record { line = r.line; what = x } ∷ before) s) e
    over (says.Up a boot) h = left_in a s t.inside (epoch_of before s) e h
    over (says.Stopped a cause) h = left_in a s t.inside (epoch_of before s) e h
    over (says.Leave a at) h = left_in a s t.inside (epoch_of before s) e h
    over (says.Join a at members) h = join a at members (same_epoch at t.epoch) refl h
    over (says.Start at group copies) h = ap (λ ns. has_number ns s) (either (λ (u : TreeState). u.inside) (same_epoch at t.epoch && (group == t.group)) _ t refl) ∙ h
    over (says.Grant at call request i m f stamp ss) h = ap (λ ns. has_number ns s) (either (λ (u : TreeState). u.inside) (same_epoch at t.epoch) _ t refl) ∙ h
    over (says.Refuse at call request i m f why) h = ap (λ ns. has_number ns s) (either (λ (u : TreeState). u.inside) (same_epoch at t.epoch && ((f.group == t.group) && is_make m)) _ t refl) ∙ h
    over (says.Act at i n o result) h = ap (λ ns. has_number ns s) (either (λ (u : TreeState). u.inside) (same_epoch at t.epoch && is_granted_here t i) _ t refl) ∙ h
    over (says.Release at i f stamp) h = ap (λ ns. has_number ns s) (either (λ (u : TreeState). u.inside) (same_epoch at t.epoch && (f.group == t.group)) _ t refl) ∙ h
    over _ h = h

-- a site that is in an epoch has joined it
pub inside_joined : (before : Trace) (s : ℕ) (e : EpochId) → is_in (epoch_of before s) e ≡ true → has_joined before s e ≡ true
inside_joined [] s e h = h
inside_joined (r ∷ before) s e h = over r.what (inside_joined before s e) h
  where
    gone : (b : Bool) → (is_in (epoch_of before s) e ≡ true → has_joined before s e ≡ true) → is_in (cond b None (epoch_of before s)) e ≡ true → has_joined before s e ≡ true
    gone true later k = false_true k
    gone false later k = later k

    come : (b : Bool) (at : EpochId) → (is_in (epoch_of before s) e ≡ true → has_joined before s e ≡ true) → is_in (cond b (Some at) (epoch_of before s)) e ≡ true → (b && same_epoch at e || has_joined before s e) ≡ true
    come true at later k = ap (λ x. x || has_joined before s e) k
    come false at later k = later k

    over : (x : Record) → (is_in (epoch_of before s) e ≡ true → has_joined before s e ≡ true) → is_in (epoch_of (record { line = r.line; what = x } ∷ before) s) e ≡ true → has_joined (record { line = r.line; what = x } ∷ before) s e ≡ true
    over (says.Up a boot) later k = gone (a == s) later k
    over (says.Stopped a cause) later k = gone (a == s) later k
    over (says.Leave a at) later k = gone (a == s) later k
    over (says.Join a at members) later k = come (a == s) at later k
    over _ later k = later k
