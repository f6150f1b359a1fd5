use Rattle.page_device.specs.Memory.{image_of}
use Rattle.page_device.specs.MemoryLaws.{picked_image}
use Rattle.page_device.proofs.mem_device.MemDevice.crash.Goals as goal

pub returns-clause-image : goal.returns-clause-image
returns-clause-image c = picked_image (image_of c.args.self.first) c.args.self.done.items c.args.pick
