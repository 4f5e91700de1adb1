use Rattle.std.proofs.Common.{◌≡◌, subst}
use Rattle.bfs_device.specs.Steps.{calls_left}
use Rattle.bfs_device.specs.Books.{View, books_of, IsOnDisk, durable_of, sealed_of}
use Rattle.bfs_device.specs.Ahead.{IsSteady, HasOrder}
use Rattle.bfs_device.proofs.Forward.{steady_of, order_of, idle_all}
use Rattle.bfs_device.proofs.device.Device.steady.Goals as goal

pub returns-clause-steady : goal.returns-clause-steady
returns-clause-steady g c = subst (λ (x : View g.row.D.Denot). IsSteady x.books) c.self.view_is (steady_of c.self.inside.journal c.self.invariant.0)

pub returns-clause-order : goal.returns-clause-order
returns-clause-order g c = subst (λ (x : View g.row.D.Denot). HasOrder x.books) c.self.view_is (order_of (books_of c.self.inside.journal) (steady_of c.self.inside.journal c.self.invariant.0))

pub returns-clause-on_disk : goal.returns-clause-on_disk
returns-clause-on_disk g c = subst (λ (x : View g.row.D.Denot). IsOnDisk (g.D.Disk.size x.disk) x.books.sup) c.self.view_is c.self.invariant.1

pub returns-clause-idle : goal.returns-clause-idle
returns-clause-idle g c = subst (λ (x : View g.row.D.Denot). calls_left x.books ≡ 0 → durable_of x.books ≡ sealed_of x.books) c.self.view_is (idle_all (books_of c.self.inside.journal) (steady_of c.self.inside.journal c.self.invariant.0))
