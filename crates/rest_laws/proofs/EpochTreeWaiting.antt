-- The requests that waited for the start are served in the order in which they came.
use Rattle.std.proofs.Common.{◌≡◌, ℕ, Bool, true, false, List, [], ◌∷◌, Some, refl, sym, ◌∙◌, subst}
use Rattle.locus_ids.specs.declared.config.Config.{Config}
use Rattle.wire_messages.specs.declared.body.Body.{Body}
use Rattle.wire_messages.specs.declared.body.Body.TheVariants as body
use Rattle.wire_messages.specs.declared.packet.Packet.{Packet}
use Rattle.role_steps.specs.Looks.{LookRequest, takes_look}
use Rattle.role_steps.specs.Opens.{OpenRequest, takes_open}
use Rattle.role_steps.specs.Own.{Every}
use Rattle.role_steps.specs.Reports.{on_look, on_open, takes_all_early, takes_early}
use Rattle.role_steps.specs.Views.{Frame, Outcome, boot_in, quiet, sync_site}
use Rattle.role_steps.specs.declared.synchronizing.Early.{Early}
use Rattle.role_steps.specs.declared.synchronizing.SyncTable.{SyncTable}
use Rattle.the_run.specs.Worlds.{Line, told_onto}
use Rattle.tree_laws.specs.Doing.{TableFine}
use Rattle.tree_laws.specs.Instances.{IsStarted}
use Rattle.tree_laws.specs.Packets.{PacketFact}
use Rattle.tree_laws.specs.Tables.{IsRequestIn, WaitsIn, early_packet}
use Rattle.store_laws.specs.OneTree.Rest.{AllRest}
use Rattle.store_laws.specs.OneTree.Roles.{Came, Ready, TableHere}
use Rattle.store_laws.proofs.OneTree.Composing.{packet_onto, rest_first, rest_last}
use Rattle.store_laws.proofs.OneTree.Staying.{stays}
use Rattle.rest_laws.specs.EpochTreeWaiting.{RequestsDo}
use Rattle.rest_laws.proofs.EpochTreeThen.{ready_onto, started_onto, table_then}

-- the way that is taken once the group has started
chosen : {A : Type 0} (b : Bool) (x y : A) → b ≡ true → elim b as (λ (z : Bool). A) [ true ↦ x | false ↦ y ] ≡ x
chosen true x y e = refl
chosen false x y e = absurd cc

pub quiet_fine : (c : Config) (n : ℕ) (trace : List Line) (f : Frame) (t : SyncTable) → TableHere c trace f t → TableFine c n trace f t.group (quiet t)
quiet_fine c n trace f t here = record { told = tt; own = tt; view = record { group_is = refl; table = here.fact }; sent = tt; written = tt }

-- the packet in which such a request came
abbrev request_packet : Frame → ℕ → Body → Packet
request_packet f us b = record { from = us; from_boot = boot_in f.members.boot us; to = f.me; to_boot = f.boot; epoch = f.epoch; body = b }

module _ (c : Config) (does : RequestsDo c) (n : ℕ) (f : Frame) where
  came : (trace : List Line) (us : ℕ) (b : Body) → PacketFact c trace (request_packet f us b) → Came c trace f (request_packet f us b) b
  came trace us b fact = record { received = record { to_is = refl; to_boot_is = refl; epoch_is = refl; from_boot_is = refl }; body_is = refl; fact = fact }

  open_fine : (trace : List Line) (us : ℕ) (o : OpenRequest) (t : SyncTable) → Ready c trace f → TableHere c trace f t → t.started ≡ true → PacketFact c trace (request_packet f us (body.Open o.serial o.call o.process o.request o.file o.how)) → t.group ≡ o.file.group →
      AllRest c n trace (takes_open f us o t).told → TableFine c n trace f t.group (takes_open f us o t)
  open_fine trace us o t ready here started fact group fresh = subst (TableFine c n trace f t.group) same (subst (λ (g : ℕ). TableFine c n trace f g (on_open f us o t)) (sym group)
      (does.opens n trace f (request_packet f us (body.Open o.serial o.call o.process o.request o.file o.how)) o t ready here (came trace us _ fact) group (subst (λ (p : Outcome SyncTable). AllRest c n trace p.told) (sym same) fresh)))
    where
      same : on_open f us o t ≡ takes_open f us o t
      same = chosen t.started _ _ started

  look_fine : (trace : List Line) (us : ℕ) (l : LookRequest) (t : SyncTable) → Ready c trace f → TableHere c trace f t → t.started ≡ true → PacketFact c trace (request_packet f us (body.Look l.call l.process l.request l.take l.file l.what)) → t.group ≡ l.file.group →
      AllRest c n trace (takes_look f us l t).told → TableFine c n trace f t.group (takes_look f us l t)
  look_fine trace us l t ready here started fact group fresh = subst (TableFine c n trace f t.group) same (subst (λ (g : ℕ). TableFine c n trace f g (on_look f us l t)) (sym group)
      (does.looks n trace f (request_packet f us (body.Look l.call l.process l.request l.take l.file l.what)) l t ready here (came trace us _ fact) group (subst (λ (p : Outcome SyncTable). AllRest c n trace p.told) (sym same) fresh)))
    where
      same : on_look f us l t ≡ takes_look f us l t
      same = chosen t.started _ _ started

  one_fine : (trace : List Line) (us : ℕ) (b : Body) (t : SyncTable) → Ready c trace f → TableHere c trace f t → t.started ≡ true → PacketFact c trace (early_packet f (record { site = us; process = 0; body = b })) → IsRequestIn t.group b →
      AllRest c n trace (takes_early f us b t).told → TableFine c n trace f t.group (takes_early f us b t)
  one_fine trace us (body.Open serial call process request file how) t ready here started fact group fresh =
      open_fine trace us (record { serial = serial; call = call; process = process; request = request; file = file; how = how }) t ready here started fact group fresh
  one_fine trace us (body.Look call process request take file what) t ready here started fact group fresh =
      look_fine trace us (record { call = call; process = process; request = request; take = take; file = file; what = what }) t ready here started fact group fresh
  one_fine trace us _ t ready here started fact group fresh = quiet_fine c n trace f t here

  pub waits_onto : (trace : List Line) (o : Outcome SyncTable) (g : ℕ) → Ready c trace f → AllRest c n trace o.told → TableFine c n trace f g o → (es : List Early) → Every (λ (x : Early). PacketFact c trace (early_packet f x)) es → Every (λ (x : Early). PacketFact c (told_onto n o.told trace) (early_packet f x)) es
  waits_onto trace o g ready fresh k [] h = tt
  waits_onto trace o g ready fresh k (x ∷ xs) h = (packet_onto c n o.told trace (stays c) ready.past k.told fresh (early_packet f x) h.0, waits_onto trace o g ready fresh k xs h.1)

  pub all_fine : (es : List Early) (trace : List Line) (t : SyncTable) → Ready c trace f → TableHere c trace f t → t.started ≡ true → Every (λ (x : Early). PacketFact c trace (early_packet f x)) es → Every (WaitsIn t.group) es →
      AllRest c n trace (takes_all_early f es t).told → TableFine c n trace f t.group (takes_all_early f es t)
  all_fine [] trace t ready here started facts groups fresh = quiet_fine c n trace f t here
  all_fine (e ∷ es) trace t ready here started facts groups fresh =
      let o : Outcome SyncTable = takes_early f e.site e.body t in
      let rest : AllRest c n trace o.told = rest_first c n o.told (takes_all_early f es o.view).told trace fresh in
      let a : TableFine c n trace f t.group o = one_fine trace e.site e.body t ready here started facts.0 groups.0 rest in
      let mid : List Line = told_onto n o.told trace in
      let later : TableHere c mid f o.view = record { synced = subst (λ (g : ℕ). sync_site f.config f.members g ≡ Some f.me) (sym a.view.group_is) here.synced; fact = a.view.table } in
      let begun : IsStarted c mid f.epoch t.group = started_onto c n f.epoch t.group o.told trace (sym here.fact.started ∙ started) in
      let begins : o.view.started ≡ true = a.view.table.started ∙ subst (λ (g : ℕ). IsStarted c mid f.epoch g) (sym a.view.group_is) begun in
      let b : TableFine c n mid f o.view.group (takes_all_early f es o.view) = all_fine es mid o.view (ready_onto c n trace f t.group o ready rest a) later begins (waits_onto trace o t.group ready rest a es facts.1) (subst (λ (g : ℕ). Every (WaitsIn g) es) (sym a.view.group_is) groups.1)
      (rest_last c n o.told (takes_all_early f es o.view).told trace fresh) in
      table_then c n trace f t.group o (takes_all_early f es o.view) ready fresh a (subst (λ (g : ℕ). TableFine c n mid f g (takes_all_early f es o.view)) a.view.group_is b)
