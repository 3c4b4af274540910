use Rattle.febe_data.specs.Plain.{plain_request, plain_reply}
use Rattle.green_store.specs.Durable.{has_risen}
use Rattle.green_store.proofs.Unkept.{refused_stays}
use Rattle.green_store.proofs.store.StoreOver.answer.Goals as goal

pub returns-in-Ok-clause-stays : goal.returns-in-Ok-clause-stays
returns-in-Ok-clause-stays g c =
    refused_stays c.args.self.now c.serve.new.self c.args.moment c.in-Ok.ensures.moments c.serve.ensures.trees c.serve.ensures.base c.serve.ensures.nodes c.serve.ensures.pages c.args.session (plain_request c.args.request.now) (plain_reply c.in-Ok.reply) (has_risen (g.D.Disk.fault_count c.args.disk.now) (g.D.Disk.fault_count c.serve.new.disk)) c.in-Ok.ensures.steps
