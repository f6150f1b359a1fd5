use Rattle.xml_model.specs.Pyx.{pyx, text_of}
use Rattle.flat_doc.proofs.Put.{text_put, document_put}
use Rattle.flat_doc.proofs.flat.put_flat.Goals as goal

pub returns-in-Ok-clause-text : goal.returns-in-Ok-clause-text
returns-in-Ok-clause-text c =
    text_put c.put_pages.result c.args.work.now c.put_pages.new.work c.args.space (text_of (pyx c.args.doc.now)) c.in-Ok.pages.items c.in-Ok.ensures.pages
    c.in-Ok.ensures.length c.put_pages.ensures.ok

pub returns-in-Ok-clause-meaning : goal.returns-in-Ok-clause-meaning
returns-in-Ok-clause-meaning c valid =
    document_put c.put_pages.result c.put_pages.new.work c.args.space c.args.doc.now valid c.document.ensures
    (text_put c.put_pages.result c.args.work.now c.put_pages.new.work c.args.space (text_of (pyx c.args.doc.now)) c.in-Ok.pages.items c.in-Ok.ensures.pages
    c.in-Ok.ensures.length c.put_pages.ensures.ok)
