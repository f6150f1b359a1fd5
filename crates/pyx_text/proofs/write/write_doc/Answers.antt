use Rattle.std.proofs.Common.{append-nil}
use Rattle.xml_model.specs.Pyx.{pyx, text_of}
use Rattle.byte_edge.proofs.Sent.{failed, sends_then, sends_as, sends_prefix}
use Rattle.pyx_text.proofs.write.write_doc.Goals as goal

pub returns-in_err-send_nodes-clause-prefix : goal.returns-in_err-send_nodes-clause-prefix
returns-in_err-send_nodes-clause-prefix g c =
    sends_prefix c.from_residual.result _ _ _ c.new-pending.ensures (failed c.from_residual.result c.from_residual.ensures.0 c.in_err-send_nodes.ensures)

pub returns-clause-prefix : goal.returns-clause-prefix
returns-clause-prefix g c =
    sends_prefix c.flush.result _ _ _ c.new-pending.ensures
    (sends_as c.flush.result _ _ _ _ (append-nil (text_of (pyx c.args.doc.now)))
    (sends_then c.flush.result _ _ c.in_ok-send_nodes.ensures c.flush.ensures.sends))
