-- The declared types of the data and their variants, so that one line brings them.
pub use Rattle.flow_data.specs.declared.data.AtomKind.{AtomKind}
pub use Rattle.flow_data.specs.declared.data.AtomKind.TheVariants.{Plain, Line, Void, Image, Bounded}
pub use Rattle.flow_data.specs.declared.data.Bound.{Bound}
pub use Rattle.flow_data.specs.declared.data.Bound.TheVariants.{Free, Each, Left}
pub use Rattle.flow_data.specs.declared.data.BoxInfo.{BoxInfo}
pub use Rattle.flow_data.specs.declared.data.Edge.{Edge}
pub use Rattle.flow_data.specs.declared.data.Edge.TheVariants.{Margin, Solid, Wall, Start, End}
pub use Rattle.flow_data.specs.declared.data.Flow.{Flow}
pub use Rattle.flow_data.specs.declared.data.FlowsData.{FlowsData}
pub use Rattle.flow_data.specs.declared.data.Item.{Item}
pub use Rattle.flow_data.specs.declared.data.Item.TheVariants.{Atom, Row}
pub use Rattle.flow_data.specs.declared.data.RowInfo.{RowInfo}
pub use Rattle.flow_data.specs.declared.data.Seam.{Seam}
pub use Rattle.flow_data.specs.declared.data.Stack.{Stack}
