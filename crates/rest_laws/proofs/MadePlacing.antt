-- Where a make is begun, of what group, and by whom; and that nobody has its file open before it is granted.
use Rattle.std.proofs.Common.{◌≡◌, ℕ, ◌==◌, Bool, true, false, cond, List, [], ◌∷◌, filter, map, Option, Some, None, refl, sym, ap, ◌∙◌, subst, ◌⊎◌, inl, inr}
use Rattle.std.specs.List.{AllByRecursion}
use Rattle.role_steps.proofs.of_plain_facts.Options.{some_same}
use Rattle.role_steps.proofs.of_plain_facts.Tests.{true_false}
use Rattle.locus_ids.specs.declared.config.Config.{Config}
use Rattle.locus_ids.specs.declared.ids.CallId.{CallId}
use Rattle.locus_ids.specs.declared.ids.EpochId.{EpochId}
use Rattle.locus_ids.specs.declared.ids.FileId.{FileId}
use Rattle.locus_ids.specs.declared.ids.Kind.{Kind}
use Rattle.locus_ids.specs.declared.ids.Serial.{Serial}
use Rattle.locus_ids.specs.declared.sites.Sites.{Sites}
use Rattle.commit_graph.specs.Versions.{same_file}
use Rattle.trace_book.specs.declared.record.Record.{Record}
use Rattle.trace_book.specs.declared.record.Record.TheVariants as says
use Rattle.call_rules.specs.declared.want.Want.{Want}
use Rattle.wire_messages.specs.declared.body.Opening.TheVariants as how
use Rattle.role_steps.specs.Tables.{row, with_latest}
use Rattle.role_steps.specs.Views.{Told, Shown}
use Rattle.the_run.specs.Worlds.{Line}
use Rattle.tree_model.specs.declared.accepted.Waiting.{Waiting}
use Rattle.tree_model.specs.declared.instance.Instance.{Instance}
use Rattle.tree_model.specs.Calls.{call_named}
use Rattle.tree_model.specs.Epochs.{members_of}
use Rattle.tree_model.specs.Packs.{making_site_in}
use Rattle.tree_model.specs.State.{is_taken}
use Rattle.tree_model.specs.Tree.{tree_of}
use Rattle.lawful_trace.specs.TreeRows.{IsCallIn}
use Rattle.tree_laws.specs.Calls.{Asks}
use Rattle.tree_laws.specs.Following.{IsFollowed, MayTell}
use Rattle.tree_laws.specs.Instances.{IsOpening}
use Rattle.tree_laws.specs.Packets.{MakesNow}
use Rattle.tree_laws.specs.Past.{NamingRecord, Printed, WasBegun, WasNamed}
use Rattle.tree_laws.specs.Printed.{entries}
use Rattle.tree_laws.specs.Tables.{named_instance, tree_openers}
use Rattle.tree_laws.proofs.CarriedLooks.{More, one_want}
use Rattle.tree_laws.proofs.Making.{IsAskedAt, begun_asked, make_set, one_group, one_opening}
use Rattle.tree_laws.proofs.Rows.{followed_rows}
use Rattle.tree_laws.proofs.Scripts.{named_stays}
use Rattle.tree_laws.proofs.Serials.{one_open, unnamed}
use Rattle.store_laws.proofs.of_tree_laws.Orders.Alone.{IsTakenIn, rows_apart}

-- ---- one make ----

pub record IsAt (s ss : ℕ) (group own : ℕ) : Type 0 where
  pub site : s ≡ ss
  pub group_is : group ≡ own

-- two makes that are asked under one serial number are one
pub asked_place : (c : Config) (trace : List Line) → IsFollowed c trace → (e : EpochId) (s ss : ℕ) (i : Serial) (f : FileId) (group : ℕ) (set : Sites) (k : Kind) → IsAskedAt c trace e s i f → MakesNow c trace e ss i group set k → IsAt s ss f.group group
asked_place c trace h e s ss i f group set k b m = record {
  site = some_same s ss (sym (subst (λ (y : CallId). making_site_in c group (members_of (entries trace) e) y.site set ≡ Some s) call_is
      (subst (λ (t : Sites). making_site_in c group (members_of (entries trace) e) b.call.site t ≡ Some s) set_is
      (subst (λ (g : ℕ). making_site_in c g (members_of (entries trace) e) b.call.site b.set ≡ Some s) (sym b.group_is ∙ same_group) b.at))) ∙ m.at);
  group_is = sym b.group_is ∙ same_group;
}
  where
    call_is : b.call ≡ m.call
    call_is = one_open c trace e b.call m.call b.request m.request i.serial b.asked m.file (how.Make b.set b.kind) (how.Make set k) h b.asks m.asks (sym b.user_is ∙ m.user_is)

    wanted : IsOpening c m.asks.wanted b.asked (how.Make b.set b.kind)
    wanted = subst (λ (w : Want). IsOpening c w b.asked (how.Make b.set b.kind)) (one_want c trace m.call b.asks.wanted m.asks.wanted (subst (λ (y : CallId). Asks c trace y b.asks.wanted) call_is b.asks.asks) m.asks.asks) b.asks.opening_is

    same_group : b.asked.group ≡ group
    same_group = one_group c m.asks.wanted b.asked m.file (how.Make b.set b.kind) set k wanted m.asks.opening_is ∙ m.group_is

    set_is : b.set ≡ set
    set_is = make_set b.set set b.kind k (one_opening c m.asks.wanted b.asked m.file (how.Make b.set b.kind) (how.Make set k) wanted m.asks.opening_is)

-- where a make that is asked was begun it is to be stored, and its file is of its group
pub begun_at : (c : Config) (trace : List Line) → IsFollowed c trace → (e : EpochId) (s ss : ℕ) (i : Serial) (f : FileId) (group : ℕ) (set : Sites) (k : Kind) → WasBegun trace s e i f → MakesNow c trace e ss i group set k → IsAt s ss f.group group
begun_at c trace h e s ss i f group set k b m = over (begun_asked c trace h e s i f b)
  where
    over : WasNamed trace e i ⊎ IsAskedAt c trace e s i f → IsAt s ss f.group group
    over (inl named) = absurd (unnamed c trace e m.call m.request i m.file (how.Make set k) h m.asks m.user_is named)
    over (inr a) = asked_place c trace h e s ss i f group set k a m

pub same_make : (c : Config) (trace : List Line) → IsFollowed c trace → (e : EpochId) (s ss : ℕ) (i : Serial) (g group : ℕ) (a set : Sites) (j k : Kind) → MakesNow c trace e s i g a j → MakesNow c trace e ss i group set k → IsAt s ss g group
same_make c trace h e s ss i g group a set j k m now =
    asked_place c trace h e s ss i (record { group = g; ino = 0 }) group set k (record { call = m.call; request = m.request; asked = m.file; set = a; kind = j; asks = m.asks; user_is = m.user_is; group_is = m.group_is; at = m.at }) now

-- ---- whose it is ----

-- a call that has a name
abbrev pub HasName : List Line → Serial → Type 0
HasName trace i = (d : CallId) × (i.us ≡ d.site) × ((w : Waiting) × (call_named (entries trace) d ≡ Some w))

name_stays : (c : Config) (n : ℕ) (x : Told) (older : List Line) → IsFollowed c older → MayTell c older x → (i : Serial) → HasName older i → HasName (More n x older) i
name_stays c n x older h may i k = (k.0, k.1, (k.2.0, named_stays c n x older k.0 h may (k.2.0, k.2.1) ∙ k.2.1))

-- who was granted or refused an open is a site of a call
pub named_site : (c : Config) (t : List Line) → IsFollowed c t → (e : EpochId) (i : Serial) → WasNamed t e i → HasName t i
named_site c [] h e i k = absurd k
named_site c (x ∷ older) h e i (inr k) = name_stays c x.number x.told older h.1 h.0 i (named_site c older h.1 e i k)
named_site c (x ∷ older) h e i (inl k) = name_stays c x.number x.told older h.1 h.0 i (over x.told h.0 k)
  where
    called : (at : EpochId) (d : CallId) (inst : Serial) → inst ≡ i → inst.us ≡ d.site → IsCallIn (entries older) at d → HasName older i
    called at d inst is user inside = (d, subst (λ (j : Serial). j.us ≡ d.site) is user, (inside.accepted, inside.named))

    of : (r : Record) → MayTell c older (Shown r) → NamingRecord e i older r → HasName older i
    of (says.Grant at call request inst m file stamp ss) may k = called at call inst k.serial_is may.in_time.opens.user_is may.in_time.opens.asks.inside
    of (says.Refuse at call request inst m file why) may k = called at call inst k.serial_is may.in_time.opens.user_is may.in_time.opens.asks.inside
    of r may k = absurd k

    over : (y : Told) → MayTell c older y → Printed (NamingRecord e i) older y → HasName older i
    over (Shown r) may k = of r may k
    over y may k = absurd k

-- and so is who has begun one
pub begun_site : (c : Config) (t : List Line) → IsFollowed c t → (s : ℕ) (e : EpochId) (i : Serial) (f : FileId) → WasBegun t s e i f → HasName t i
begun_site c t h s e i f b = over (begun_asked c t h e s i f b)
  where
    over : WasNamed t e i ⊎ IsAskedAt c t e s i f → HasName t i
    over (inl named) = named_site c t h e i named
    over (inr a) = (a.call, a.user_is, (a.asks.inside.accepted, a.asks.inside.named))

-- ---- openers ----

-- nobody has a file open on which nothing was granted
pub untaken_openers : (c : Config) (trace : List Line) → IsFollowed c trace → (e : EpochId) (g : ℕ) (f : FileId) → is_taken (tree_of c e g (entries trace)) f ≡ false → tree_openers (tree_of c e g (entries trace)) f ≡ []
untaken_openers c trace h e g f free = none (tree_of c e g (entries trace)).instances (rows_apart c (entries trace) (followed_rows c trace h) e g).taken
  where
    none : (xs : List Instance) → AllByRecursion (IsTakenIn (tree_of c e g (entries trace)).grants) xs → map named_instance (filter (λ (x : Instance). same_file x.grant.file f) xs) ≡ []
    none [] k = refl
    none (x ∷ xs) k = at (same_file x.grant.file f) refl (none xs k.1)
      where
        at : (b : Bool) → same_file x.grant.file f ≡ b → map named_instance (filter (λ (y : Instance). same_file y.grant.file f) xs) ≡ [] → map named_instance (cond b (x ∷ filter (λ (y : Instance). same_file y.grant.file f) xs) (filter (λ (y : Instance). same_file y.grant.file f) xs)) ≡ []
        at true e later = absurd (true_false (sym (k.0 f e) ∙ free))
        at false e later = later

-- where none of the others passes, and the row that is replaced didn't, the new one is alone
pub alone_replaced : {A B : Type 0} (key : A → ℕ) (p : A → Bool) (g : A → B) (x q : A) (xs : List A) → row key (key x) xs ≡ Some q → p q ≡ false → p x ≡ true → map g (filter p xs) ≡ [] → map g (filter p (with_latest key x xs)) ≡ g x ∷ []
alone_replaced {A = A} key p g x q [] e out passes none = absurd (no e)
  where
    no : ◌≡◌ {A = Option A} None (Some q) → ⊥
    no k = cc
alone_replaced {A = A} {B = B} key p g x q (y ∷ ys) e out passes none = at (key y == key x) e (λ k l. alone_replaced key p g x q ys k out passes l)
  where
    some : (a : A) (zs : List A) → ◌≡◌ {A = List B} (g a ∷ map g zs) [] → ⊥
    some a zs k = cc

    later_none : (b : Bool) → map g (cond b (y ∷ filter p ys) (filter p ys)) ≡ [] → (b ≡ false) × (map g (filter p ys) ≡ [])
    later_none true k = absurd (some y (filter p ys) k)
    later_none false k = (refl, k)

    at : (b : Bool) → ◌≡◌ {A = Option A} (elim b [ true ↦ Some y | false ↦ row key (key x) ys ]) (Some q) → (row key (key x) ys ≡ Some q → map g (filter p ys) ≡ [] → map g (filter p (with_latest key x ys)) ≡ g x ∷ []) →
        map g (filter p (elim b [ true ↦ x ∷ ys | false ↦ y ∷ with_latest key x ys ])) ≡ g x ∷ []
    at true k later = ap (λ (b : Bool). map g (cond b (x ∷ filter p ys) (filter p ys))) passes ∙ ap (λ (zs : List B). g x ∷ zs) (later_none (p y) none).1
    at false k later = ap (λ (b : Bool). map g (cond b (y ∷ filter p (with_latest key x ys)) (filter p (with_latest key x ys)))) (later_none (p y) none).0 ∙ later k (later_none (p y) none).1
