pub mod DescriptorRows
pub mod Free
