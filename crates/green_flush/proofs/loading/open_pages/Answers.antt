use Rattle.page_journal.specs.Images.{GivesSettled}
use Rattle.green_flush.proofs.Opening.{settled-still, none-opened, header-opened, none-loaded, over-loaded}
use Rattle.green_flush.proofs.loading.open_pages.Goals as goal

pub returns-in_default-clause-any_moment : goal.returns-in_default-clause-any_moment
returns-in_default-clause-any_moment g c =
    settled-still (g.D.Disk.state c.args.disk.now).reads (g.D.Disk.state c.args.disk.now) (g.D.Disk.state c.open.new.disk) (g.D.Disk.state c.read_header.new.disk) GivesSettled
    c.in_ok-journal.ensures.any_moment c.in_ok-header.ensures.crash

pub returns-in_default-clause-opened : goal.returns-in_default-clause-opened
returns-in_default-clause-opened g c =
    none-opened (g.D.Disk.state c.args.disk.now).reads (g.D.Disk.state c.open.new.disk) (g.D.Disk.state c.read_header.new.disk) c.in_ok-journal.journal c.in_ok-header.field-0 c.aside.result.flush c.aside.result.trees
    c.in_ok-journal.ensures.stands (g.met.D.Disk.is_disk c.open.new.disk) (g.met.D.Disk.is_disk c.read_header.new.disk) c.in_default.is
    c.in_ok-header.ensures.header c.in_ok-header.ensures.reads c.in_ok-header.ensures.crash c.aside.ensures.trees c.aside.ensures.flush

pub returns-clause-any_moment : goal.returns-clause-any_moment
returns-clause-any_moment g c =
    settled-still (g.D.Disk.state c.args.disk.now).reads (g.D.Disk.state c.args.disk.now) (g.D.Disk.state c.open.new.disk) (g.D.Disk.state c.read_header.new.disk) GivesSettled
    c.in_ok-journal.ensures.any_moment c.in_ok-header.ensures.crash

pub returns-clause-opened : goal.returns-clause-opened
returns-clause-opened g c =
    header-opened (g.D.Disk.state c.args.disk.now).reads (g.D.Disk.state c.open.new.disk) (g.D.Disk.state c.read_header.new.disk) c.in_ok-journal.journal c.in-Some.header c.in_ok-header.field-0 c.in_ok-opened.opened.flush c.in_ok-opened.opened.trees
    c.in_ok-journal.ensures.stands (g.met.D.Disk.is_disk c.open.new.disk) (g.met.D.Disk.is_disk c.read_header.new.disk) c.in-Some.is
    c.in_ok-header.ensures.header c.in_ok-header.ensures.reads c.in_ok-header.ensures.crash c.in_ok-opened.ensures

pub returns-in_default-clause-sound : goal.returns-in_default-clause-sound
returns-in_default-clause-sound g c = none-loaded c.aside.result.trees c.aside.ensures.trees

pub returns-clause-sound : goal.returns-clause-sound
returns-clause-sound g c = over-loaded _ _ _ _ _ c.in_ok-opened.ensures
