-- A make that is begun and not named is alone on its number; and what was granted is of a file that stands, or was begun as a make.
use Rattle.std.proofs.Common.{◌≡◌, ℕ, ◌==◌, Bool, true, false, ◌&&◌, cond, List, [], ◌∷◌, Option, refl, sym, ◌∙◌, subst, ◌⊎◌, inl, inr}
use Rattle.std.specs.List.{AllByRecursion}
use Rattle.locus_ids.specs.declared.config.Config.{Config}
use Rattle.locus_ids.specs.declared.ids.CallId.{CallId}
use Rattle.locus_ids.specs.declared.ids.EpochId.{EpochId}
use Rattle.locus_ids.specs.declared.ids.FileId.{FileId}
use Rattle.locus_ids.specs.declared.ids.Mode.{Mode}
use Rattle.locus_ids.specs.declared.ids.Mode.TheVariants as mode
use Rattle.locus_ids.specs.declared.ids.Serial.{Serial}
use Rattle.locus_ids.specs.declared.ids.Stamp.{Stamp}
use Rattle.commit_graph.specs.declared.history.Version.{Version}
use Rattle.commit_graph.specs.Versions.{is_in}
use Rattle.trace_book.specs.Same.{same_epoch}
use Rattle.trace_book.specs.declared.record.Record.{Record}
use Rattle.trace_book.specs.declared.record.Record.TheVariants as says
use Rattle.site_laws.specs.of_role_steps.Views.{Told, Shown, Begins}
use Rattle.tree_laws.specs.of_the_run.Worlds.{Line}
use Rattle.tree_model.specs.declared.instance.Granted.{Granted}
use Rattle.tree_model.specs.Given.{gives_grant}
use Rattle.tree_model.specs.Histories.{history}
use Rattle.tree_model.specs.Opening.{is_given_by}
use Rattle.tree_model.specs.State.{TreeState, is_granted_here, is_make, stamps_of}
use Rattle.tree_model.specs.Tree.{acted, grant_of, granted, joined, left, next, released, tree_of, without_make}
use Rattle.tree_laws.specs.Following.{BeginsGranted, BeginsMade, IsFollowed, MakesInTime, MayTell}
use Rattle.tree_laws.specs.Past.{BeginsIt, WasBegun, WasNamed}
use Rattle.tree_laws.specs.Printed.{entries, onto_entries}
use Rattle.tree_laws.proofs.Grants.{open_named}
use Rattle.tree_laws.proofs.Histories.{stands_more}
use Rattle.tree_laws.proofs.Names.{same_epoch_eq}
use Rattle.tree_laws.proofs.Rows.{followed_rows}
use Rattle.tree_laws.proofs.Orders.Alone.{tree_named}
use Rattle.tree_laws.proofs.Orders.Lists.{all_more, all_then}
use Rattle.store_laws.proofs.Holdings.OneVersionHomes.{OnGround, grants_on_ground}
use Rattle.store_laws.proofs.Holdings.Made.{candidates_stand}
use Rattle.store_laws.proofs.Holdings.Rising.{member_stands}

-- ---- a begun make is alone on its number ----

named_later : (x : Line) (older : List Line) (e : EpochId) (i : Serial) → (WasNamed (x ∷ older) e i → ⊥) → WasNamed older e i → ⊥
named_later x older e i un k = un (inr k)

pub granted_named : (c : Config) (older : List Line) (s : ℕ) (e : EpochId) (i : Serial) (f : FileId) → BeginsGranted c older s e i f → WasNamed older e i
granted_named c older s e i f k = open_named c older e i k.at k.open_at.found

-- two makes of one number that aren't named are one
pub one_begun : (c : Config) (trace : List Line) → IsFollowed c trace → (s : ℕ) (e : EpochId) (i j : Serial) (f : FileId) → WasBegun trace s e i f → WasBegun trace s e j f → (WasNamed trace e i → ⊥) → (WasNamed trace e j → ⊥) → i ≡ j
one_begun c [] followed s e i j f k l un vn = absurd k
one_begun c (x ∷ older) followed s e i j f (inr k) (inr l) un vn = one_begun c older followed.1 s e i j f k l (named_later x older e i un) (named_later x older e j vn)
one_begun c (x ∷ older) followed s e i j f (inl k) (inl l) un vn = both x.told k l
  where
    both : (y : Told) → BeginsIt s e i f older y → BeginsIt s e j f older y → i ≡ j
    both (Begins site at inst file) k l = sym k.serial_is ∙ l.serial_is
    both _ k l = absurd k
one_begun c (x ∷ older) followed s e i j f (inl k) (inr l) un vn = absurd (later x.told followed.0 k)
  where
    later : (y : Told) → MayTell c older y → BeginsIt s e i f older y → ⊥
    later (Begins site at inst file) may k = over may.may
      where
        over : BeginsGranted c older site at inst file ⊎ BeginsMade c older site at inst file → ⊥
        over (inl w) = un (inr (subst (λ (z : Serial). WasNamed older e z) k.serial_is (subst (λ (z : EpochId). WasNamed older z inst) k.epoch_is (granted_named c older site at inst file w))))
        over (inr w) = w.untouched j (subst (λ (z : ℕ). WasBegun older z at j file) (sym k.site_is) (subst (λ (z : EpochId). WasBegun older s z j file) (sym k.epoch_is) (subst (λ (z : FileId). WasBegun older s e j z) (sym k.file_is) l)))
    later _ may k = absurd k
one_begun c (x ∷ older) followed s e i j f (inr k) (inl l) un vn = absurd (later x.told followed.0 l)
  where
    later : (y : Told) → MayTell c older y → BeginsIt s e j f older y → ⊥
    later (Begins site at inst file) may l = over may.may
      where
        over : BeginsGranted c older site at inst file ⊎ BeginsMade c older site at inst file → ⊥
        over (inl w) = vn (inr (subst (λ (z : Serial). WasNamed older e z) l.serial_is (subst (λ (z : EpochId). WasNamed older z inst) l.epoch_is (granted_named c older site at inst file w))))
        over (inr w) = w.untouched i (subst (λ (z : ℕ). WasBegun older z at i file) (sym l.site_is) (subst (λ (z : EpochId). WasBegun older s z i file) (sym l.epoch_is) (subst (λ (z : FileId). WasBegun older s e i z) (sym l.file_is) k)))
    later _ may l = absurd l

-- ---- what was granted is of a file that stands, or was begun as a make ----

pub record Reserved (older : List Line) (e : EpochId) (f : FileId) : Type 0 where
  pub site : ℕ
  pub inst : Serial
  pub begun : WasBegun older site e inst f
  pub given : is_given_by site f.ino ≡ true

abbrev pub GrantRooted : Config → List Line → EpochId → ℕ → Granted → Type 0
GrantRooted c trace e g d = d.file.group ≡ g → ((s : Stamp) × (is_in (history c (entries trace)) d.file s ≡ true)) ⊎ Reserved trace e d.file

more_begun : (x : Line) (older : List Line) (e : EpochId) (f : FileId) → Reserved older e f → Reserved (x ∷ older) e f
more_begun x older e f k = record { site = k.site; inst = k.inst; begun = inr k.begun; given = k.given }

module _ (c : Config) (older : List Line) (n : ℕ) (followed : IsFollowed c older) (e : EpochId) (g : ℕ) (old : AllByRecursion (GrantRooted c older e g) (tree_of c e g (entries older)).grants) where
  abbrev t : TreeState
  t = tree_of c e g (entries older)

  abbrev h : List Version
  h = history c (entries older)

  grant_stays : (x : Told) (d : Granted) → GrantRooted c older e g d → GrantRooted c (record { number = n; told = x } ∷ older) e g d
  grant_stays x d k in_group = over (k in_group)
    where
      over : ((s : Stamp) × (is_in h d.file s ≡ true)) ⊎ Reserved older e d.file → ((s : Stamp) × (is_in (history c (onto_entries n x (entries older))) d.file s ≡ true)) ⊎ Reserved (record { number = n; told = x } ∷ older) e d.file
      over (inl w) = inl (w.0, stands_more c n x older d.file w.0 w.1)
      over (inr w) = inr (more_begun (record { number = n; told = x }) older e d.file w)

  all_stay : (x : Told) (gs : List Granted) → AllByRecursion (GrantRooted c older e g) gs → AllByRecursion (GrantRooted c (record { number = n; told = x } ∷ older) e g) gs
  all_stay x gs all = all_then (GrantRooted c older e g) (GrantRooted c (record { number = n; told = x } ∷ older) e g) (grant_stays x) gs all

  given_here : (d : EpochId) (call : CallId) (i : Serial) (m : Mode) (f : FileId) (stamp : Option Stamp) (ss : ℕ) → gives_grant h (tree_of c d f.group (entries older)) call i m f stamp ss ≡ true → d ≡ e → MakesInTime older d i f ss m → ((s : Stamp) × (is_in h f s ≡ true)) ⊎ Reserved older e f
  given_here d call i m f stamp ss gives same begun = over m begun (grants_on_ground h (tree_of c d f.group (entries older)) call i m f stamp ss gives)
    where
      over : (m : Mode) → MakesInTime older d i f ss m → OnGround (tree_of c d f.group (entries older)) m f ss → ((s : Stamp) × (is_in h f s ≡ true)) ⊎ Reserved older e f
      over mode.Make begun (inl k) = inr (record { site = ss; inst = i; begun = subst (λ (y : EpochId). WasBegun older ss y i f) same begun; given = k.1 })
      over mode.Read begun (inl k) = absurd (plain k.0)
        where
          plain : mode.Read ≡ mode.Make → ⊥
          plain q = cc
      over mode.Write begun (inl k) = absurd (plain k.0)
        where
          plain : mode.Write ≡ mode.Make → ⊥
          plain q = cc
      over mode.Resolve begun (inl k) = absurd (plain k.0)
        where
          plain : mode.Resolve ≡ mode.Make → ⊥
          plain q = cc
      over mode.Mend begun (inl k) = absurd (plain k.0)
        where
          plain : mode.Mend ≡ mode.Make → ⊥
          plain q = cc
      over m begun (inr k) = inl (k.0, member_stands (λ s. is_in h f s ≡ true) (stamps_of (tree_of c d f.group (entries older)).known f.ino) k.0 k.1 (candidates_stand c (entries older) (followed_rows c older followed) d f))

  abbrev Then : Record → TreeState → Type 0
  Then r u = AllByRecursion (GrantRooted c (record { number = n; told = Shown r } ∷ older) e g) u.grants

  if_grants : (r : Record) (b : Bool) (u v : TreeState) → u.grants ≡ t.grants → v.grants ≡ t.grants → Then r (cond b u v)
  if_grants r true u v p q = subst (AllByRecursion (GrantRooted c (record { number = n; told = Shown r } ∷ older) e g)) (sym p) (all_stay (Shown r) t.grants old)
  if_grants r false u v p q = subst (AllByRecursion (GrantRooted c (record { number = n; told = Shown r } ∷ older) e g)) (sym q) (all_stay (Shown r) t.grants old)

  next_grants : (r : Record) → MayTell c older (Shown r) → Then r (next h r t)
  next_grants (says.Grant d call request i m f stamp ss) may = over (same_epoch d t.epoch) refl
    where
      new : same_epoch d t.epoch ≡ true → GrantRooted c (record { number = n; told = Shown (says.Grant d call request i m f stamp ss) } ∷ older) e g (grant_of t call i m f ss)
      new same in_group = at (given_here d call i m f stamp ss may.row.gives (same_epoch_eq d t.epoch same ∙ (tree_named c e g (entries older)).0) may.in_time.makes)
        where
          at : ((s : Stamp) × (is_in h f s ≡ true)) ⊎ Reserved older e f → ((s : Stamp) × (is_in h f s ≡ true)) ⊎ Reserved (record { number = n; told = Shown (says.Grant d call request i m f stamp ss) } ∷ older) e f
          at (inl w) = inl w
          at (inr w) = inr (more_begun (record { number = n; told = Shown (says.Grant d call request i m f stamp ss) }) older e f w)

      over : (b : Bool) → same_epoch d t.epoch ≡ b → AllByRecursion (GrantRooted c (record { number = n; told = Shown (says.Grant d call request i m f stamp ss) } ∷ older) e g) (cond b (granted h (grant_of t call i m f ss) stamp t) t).grants
      over true same = all_more (GrantRooted c (record { number = n; told = Shown (says.Grant d call request i m f stamp ss) } ∷ older) e g) t.grants (grant_of t call i m f ss) (all_stay (Shown (says.Grant d call request i m f stamp ss)) t.grants old) (new same)
      over false same = all_stay (Shown (says.Grant d call request i m f stamp ss)) t.grants old
  next_grants (says.Join z d m) may = if_grants (says.Join z d m) (same_epoch d t.epoch) (joined z m t) (left z t) refl refl
  next_grants (says.Start d k copies) may = if_grants (says.Start d k copies) (same_epoch d t.epoch && (k == t.group)) (record t { started = true }) t refl refl
  next_grants (says.Refuse d call request i m f why) may = if_grants (says.Refuse d call request i m f why) (same_epoch d t.epoch && ((f.group == t.group) && is_make m)) (record t { makes = without_make call t.makes }) t refl refl
  next_grants (says.Act d i k o result) may = if_grants (says.Act d i k o result) (same_epoch d t.epoch && is_granted_here t i) (acted h i o result t) t refl refl
  next_grants (says.Release d i f stamp) may = if_grants (says.Release d i f stamp) (same_epoch d t.epoch && (f.group == t.group)) (released i f stamp t) t refl refl
  next_grants r may = all_stay (Shown r) t.grants old

  told_grants : (x : Told) → MayTell c older x → AllByRecursion (GrantRooted c (record { number = n; told = x } ∷ older) e g) (tree_of c e g (onto_entries n x (entries older))).grants
  told_grants (Shown r) may = next_grants r may
  told_grants x may = all_stay x t.grants old

pub grants_rooted : (c : Config) (trace : List Line) → IsFollowed c trace → (e : EpochId) (g : ℕ) → AllByRecursion (GrantRooted c trace e g) (tree_of c e g (entries trace)).grants
grants_rooted c [] followed e g = tt
grants_rooted c (x ∷ older) followed e g = told_grants c older x.number followed.1 e g (grants_rooted c older followed.1 e g) x.told followed.0
