use Rattle.std.proofs.Common.{refl}
use Rattle.packet_fit.proofs.refusals.is_refusal.Goals as goal

pub returns-in-Busy : goal.returns-in-Busy
returns-in-Busy c = rw c.in-Busy.is c.is_user.ensures

pub returns-in-Absent : goal.returns-in-Absent
returns-in-Absent c = rw c.in-Absent.is c.is_component_field.ensures

pub returns-in-Exists : goal.returns-in-Exists
returns-in-Exists c = rw c.in-Exists.is c.is_inode.ensures

pub returns-in-NotEmpty : goal.returns-in-NotEmpty
returns-in-NotEmpty c = rw c.in-NotEmpty.is c.is_component_field-in-NotEmpty.ensures

pub returns-in-Conflict : goal.returns-in-Conflict
returns-in-Conflict c = rw c.in-Conflict.is c.are_stamps.ensures

pub returns-in-Ambiguous : goal.returns-in-Ambiguous
returns-in-Ambiguous c = rw c.in-Ambiguous.is c.are_inodes.ensures

pub returns-in-NoSpace : goal.returns-in-NoSpace
returns-in-NoSpace c = rw c.in-NoSpace.is c.are_pages.ensures

pub returns-in-NoStorage : goal.returns-in-NoStorage
returns-in-NoStorage c = rw c.in-NoStorage.is (λ _. tt, λ _. refl)

pub returns-in-TooLong : goal.returns-in-TooLong
returns-in-TooLong c = rw c.in-TooLong.is (λ _. tt, λ _. refl)

pub returns-in-NoInode : goal.returns-in-NoInode
returns-in-NoInode c = rw c.in-NoInode.is (λ _. tt, λ _. refl)

pub returns-in-Spent : goal.returns-in-Spent
returns-in-Spent c = rw c.in-Spent.is (λ _. tt, λ _. refl)

pub returns-in-NoConflict : goal.returns-in-NoConflict
returns-in-NoConflict c = rw c.in-NoConflict.is (λ _. tt, λ _. refl)

pub returns-in-NotDir : goal.returns-in-NotDir
returns-in-NotDir c = rw c.in-NotDir.is (λ e. absurd (cc), λ e. absurd e)

pub returns-in-IsDir : goal.returns-in-IsDir
returns-in-IsDir c = rw c.in-IsDir.is (λ e. absurd (cc), λ e. absurd e)

pub returns-in-NoPartition : goal.returns-in-NoPartition
returns-in-NoPartition c = rw c.in-NoPartition.is (λ e. absurd (cc), λ e. absurd e)

pub returns-in-Changed : goal.returns-in-Changed
returns-in-Changed c = rw c.in-Changed.is (λ e. absurd (cc), λ e. absurd e)

pub returns-in-BadDescriptor : goal.returns-in-BadDescriptor
returns-in-BadDescriptor c = rw c.in-BadDescriptor.is (λ e. absurd (cc), λ e. absurd e)

pub returns-in-Stale : goal.returns-in-Stale
returns-in-Stale c = rw c.in-Stale.is (λ e. absurd (cc), λ e. absurd e)

pub returns-in-BadName : goal.returns-in-BadName
returns-in-BadName c = rw c.in-BadName.is (λ e. absurd (cc), λ e. absurd e)

pub returns-in-ReadOnly : goal.returns-in-ReadOnly
returns-in-ReadOnly c = rw c.in-ReadOnly.is (λ e. absurd (cc), λ e. absurd e)

pub returns-in-NoDescriptor : goal.returns-in-NoDescriptor
returns-in-NoDescriptor c = rw c.in-NoDescriptor.is (λ e. absurd (cc), λ e. absurd e)
